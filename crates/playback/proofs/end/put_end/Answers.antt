-- Nothing is printed where no unit is set up; else the cards stand behind what is left.
use Rattle.std.proofs.Common.{rules, sym, ◌∙◌}
use borrow.Author.Tests.{le-leb, lt-leb}
use Rattle.text.proofs.Put.{puts-nothing, puts}
use Rattle.playback.specs.Arrays.{replica_at}
use Rattle.transcript.proofs.Cuts.{stopped_end}
use Rattle.playback.proofs.Cards.{end_fresh, end_playing}
use Rattle.playback.proofs.end.put_end.Goals as goal

pub returns-in-First : goal.returns-in-First
returns-in-First c = λ arrays e f. rw (c.in-First.is, ← end_fresh c.args.rest.now) c.put_part.ensures

pub returns-in-Playing : goal.returns-in-Playing
returns-in-Playing c =
    let u = c.in-Playing.u in
    λ arrays e f.
    rw (c.in-Playing.is, le-leb u.k 3 c.if-u-le-MAX_K.true, ← end_playing u c.in-Playing.place (replica_at u arrays) c.args.rest.now)
    (c.put_cards.ensures u arrays e f ∙ rw c.put_part-in-Playing.ensures (puts _ _ _))

pub returns-else-u-le-MAX_K : goal.returns-else-u-le-MAX_K
returns-else-u-le-MAX_K c =
    λ arrays e f. rw (c.in-Playing.is, lt-leb c.in-Playing.u.k 3 c.if-u-le-MAX_K.false, stopped_end c.args.rest.now) (sym (puts-nothing _))

pub returns : goal.returns
returns c = λ arrays e f. search (rules, stopped_end c.args.rest.now, puts-nothing c.args.writer.now)
