-- The sheet as it is written, line by line. Assumes nothing.
use Rattle.std.proofs.Common.{ℕ, zero, suc, ◌+◌, ◌-◌, ◌≤◌, ◌<◌, ◌≡◌, refl, ap, List, ◌++◌, map, length, drop, get_or, zero-add, arith}
use Rattle.text.specs.Text.{joined}
use Rattle.text.specs.Page.{Page, page, put_text}
use Rattle.text.specs.Writer.{put}
use Rattle.text.specs.declared.Writer.{Writer}
use Rattle.text.proofs.Put.{put-room, puts}
use Rattle.session.specs.Session.{choices, count_up}
use Rattle.sheet.specs.Sheet.{session_line, sheet}

-- each is one of document 02's four choices
pub choice_small : (place i : ℕ) → get_or (choices place) i 0 < 4
choice_small place zero = omega arith
choice_small place (suc zero) = omega arith
choice_small place (suc (suc zero)) = omega arith
choice_small place (suc (suc (suc zero))) = omega arith
choice_small place (suc (suc (suc (suc i)))) = omega arith

-- those from a place on
abbrev pub lines_from : ℕ → List ℕ
lines_from place = joined (map session_line (count_up place (256 - place)))

pub lines_all : lines_from 0 ≡ sheet
unfolding sheet
lines_all = refl

pub put_next : (w : Writer) (place : ℕ) → place < 256 → put (put w (session_line place)) (lines_from (place + 1)) ≡ put w (lines_from place)
put_next w place small =
    let left : 256 - place ≡ suc (256 - (place + 1)) = omega arith in
    rw left (puts w (session_line place) (lines_from (place + 1)))

-- where there is room the sheet stands at the start
pub put-sheet : (destination : List ℕ) → length sheet ≤ length destination → (put_text (page destination 0) sheet).bytes ≡ sheet ++ drop (length sheet) destination
put-sheet destination room =
    let all = ap (λ (p : Page). p.bytes) (put-room (page destination 0) sheet (omega (arith, room))) in
    rw (zero-add (length sheet)) at all
