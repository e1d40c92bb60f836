-- What an accepted step leaves in its output.
use Rattle.std.specs.Prelude.{ℕ, ◌*◌, ◌≡◌, length, drop}
use mathlib.Core.List.{List, [], ◌∷◌, ◌++◌, Memᴰ}
use Rattle.limits.specs.Limits.{record_size}
use Rattle.layout.specs.Layout.{bytes_of}
use Rattle.record.specs.Record.{message_fields}
use Rattle.record.specs.declared.message.Message.{Message}
use Rattle.rules.specs.Replica.{Stepped}
use Rattle.rules.specs.Run.{messages_in}
use Rattle.rules.specs.declared.Settings.{Settings}

-- the records of messages, one after the other
abbrev pub record_bytes : List Message → List ℕ
record_bytes [] = []
record_bytes (m ∷ messages) = bytes_of (message_fields m) ++ record_bytes messages

-- of any replica: as many records as are counted, of some of the messages, and behind them the bytes that stood there
pub record CountsRecords (messages : List Message) (output : List ℕ) (d : Stepped) : Type 0 where
  pub kept : List Message
  pub among : (m : Message) → Memᴰ m kept → Memᴰ m messages
  pub count : d.count ≡ length kept
  pub records : d.output ≡ record_bytes kept ++ drop (record_size * length kept) output

-- of one that was made: as many records as are counted, those of the messages, and behind them the bytes that stood there; the messages are read back
pub record HoldsRecords (u : Settings) (sent : List Message) (output : List ℕ) (d : Stepped) : Type 0 where
  pub count : d.count ≡ length sent
  pub records : d.output ≡ record_bytes sent ++ drop (record_size * length sent) output
  pub read : messages_in u.k u.groups d.count d.output ≡ sent
