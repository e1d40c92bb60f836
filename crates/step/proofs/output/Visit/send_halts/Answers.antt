use Rattle.std.proofs.Common.{◌≡◌, ◌+◌, ◌-◌, map, refl, sym, arith}
use Rattle.rules.specs.Lists.{up_to}
use Rattle.rules.specs.Batch.{halt_to}
use Rattle.rules.specs.Replica.{written, put_all}
use Rattle.step.proofs.Written.{put-up_to, none_written}
use Rattle.step.proofs.output.Visit.send_halts.Goals as goal
use Rattle.step.proofs.output.Visit.send_halts.Goals.{After-put-next}

-- with this halt, those of the processes up to this one are written
so_far : (c : After-put-next) →
    let v = c.args.self in
    written c.put-next.result c.put-next.new.output
    ≡ put_all v.settings.k v.settings.groups (written c.args.count c.args.output.now) (map (halt_to v.group v.number c.args.t) (up_to c.loop-process.process))
so_far c =
    let v = c.args.self in
    let p = c.loop-process.process in
    let e : p - 1 + 1 ≡ p = omega arith in
    rw (c.put-next.ensures, c.halt_to-halt.ensures, c.loop-process.invariant)
    (rw e at (put-up_to v.settings.k v.settings.groups (written c.args.count c.args.output.now) (halt_to v.group v.number c.args.t) (p - 1)))

-- where k is no unit's, none ever is
pub returns-then-self-gt-MAX_K : goal.returns-then-self-gt-MAX_K
returns-then-self-gt-MAX_K c =
    let u = c.args.self.settings in
    sym (none_written u.k u.groups (written c.args.count c.args.output.now) _ c.if-self-gt-MAX_K.true)

pub loop-process-init : goal.loop-process-init
unfolding put_all
loop-process-init c = refl

pub loop-process-preserved : goal.loop-process-preserved
loop-process-preserved c =
    let e : c.loop-process.process + 1 - 1 ≡ c.loop-process.process = omega arith in
    rw e (so_far (goal.at.loop-process-preserved c).After-put-next)

pub returns-else-self-gt-MAX_K-2 : goal.returns-else-self-gt-MAX_K-2
returns-else-self-gt-MAX_K-2 c =
    let e : c.loop-process.process ≡ c.args.self.settings.k + 1 = omega arith in
    rw e at (so_far (goal.at.returns-else-self-gt-MAX_K-2 c).After-put-next)
