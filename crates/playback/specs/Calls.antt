-- What a call does, said of what it was lent and what it left: the unit, and what it wrote.
use Rattle.std.specs.Prelude.{ℕ, ◌≡◌}
use Rattle.text.specs.Page.{Page, put_text}
use Rattle.text.specs.Writer.{put}
use Rattle.text.specs.declared.Writer.{Writer}
use Rattle.transcript.specs.Journal.{Unit, Printed}
use Rattle.transcript.specs.Blocks.{Played}

-- it left this unit, and put the text behind what was used
abbrev pub AsPrinted : Printed → Unit → Writer → Writer → Type 0
AsPrinted p unit before after = (unit ≡ p.unit) × (after ≡ put before p.text)

-- and it took so many bytes
abbrev pub AsWritten : Played → Unit → ℕ → Writer → Writer → Type 0
AsWritten p unit taken before after = (unit ≡ p.unit) × (taken ≡ p.taken) × (after ≡ put before p.text)

-- the same of the page, a lent text of which the first bytes are used
abbrev pub AsPlayed : Played → Unit → ℕ → Page → Page → Type 0
AsPlayed p unit taken before after = (unit ≡ p.unit) × (taken ≡ p.taken) × (after ≡ put_text before p.text)
