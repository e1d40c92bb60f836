-- A lent text that is filled from its start.
use Rattle.std.specs.Prelude.{ℕ, ◌+◌, ◌-◌, List, ◌++◌, length, take, drop}

-- its bytes, and how many of the first ones are used
pub record Page : Type 0 where
  pub bytes : List ℕ
  pub used : ℕ

abbrev pub page : List ℕ → ℕ → Page
page bytes used = record { bytes = bytes; used = used }

-- a text that fits, behind what is used
abbrev pub with_text : Page → List ℕ → Page
with_text p text =
    let end = p.used + length text in
    page (take p.used p.bytes ++ (text ++ drop end p.bytes)) end

-- a text put behind what is used; what does not fit is cut off
unfoldable pub put_text : Page → List ℕ → Page
put_text p text = with_text p (take (length p.bytes - p.used) text)
