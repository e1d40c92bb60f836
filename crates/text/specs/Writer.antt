-- What a writer holds: a lent text that is filled from its start.
use Rattle.std.specs.Prelude.{ℕ, List}
use Rattle.text.specs.declared.Writer.{Writer}
use Rattle.text.specs.Page.{Page, page, put_text}

abbrev pub page_of : Writer → Page
page_of w = page w.text.now w.used

-- the same lent text with this page in it
abbrev pub with_page : Writer → Page → Writer
with_page w p = record w { text = record w.text { now = p.bytes }; used = p.used }

-- a text put behind what is used; what does not fit is cut off
unfoldable pub put : Writer → List ℕ → Writer
put w text = with_page w (put_text (page_of w) text)
