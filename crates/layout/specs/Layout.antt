-- Document 01, "Records": the 24 bytes of a record.
use Rattle.std.specs.Prelude.{ℕ, cond, List, ◌++◌, eqb, leb, length, take, drop}
use Rattle.limits.specs.Limits.{record_size}
use Rattle.layout.specs.Number.{number, digits}
use Rattle.layout.specs.declared.fields.Fields.{Fields}

-- the number in the bytes of a record from a place on, at a width
abbrev pub field : List ℕ → ℕ → ℕ → ℕ
field bytes at width = number (take width (drop at bytes))

-- what 24 bytes say
unfoldable pub fields_of : List ℕ → Fields
fields_of bytes = record {
  kind = field bytes 0 1;
  group = field bytes 1 1;
  process = field bytes 2 1;
  replica = field bytes 3 1;
  variable = field bytes 4 2;
  spare6 = field bytes 6 2;
  timestamp = record { 0 = field bytes 8 8 };
  value = field bytes 16 4;
  spare20 = field bytes 20 4;
}

-- no field is set
abbrev pub blank_fields : Fields
blank_fields = record {
  kind = 0;
  group = 0;
  process = 0;
  replica = 0;
  variable = 0;
  spare6 = 0;
  timestamp = record { 0 = 0 };
  value = 0;
  spare20 = 0;
}

-- of another number of bytes nothing is read
abbrev pub fields_in : List ℕ → Fields
fields_in bytes = cond (eqb (length bytes) record_size) (fields_of bytes) blank_fields

-- the 24 bytes that say it
unfoldable pub bytes_of : Fields → List ℕ
bytes_of f =
    digits 1 f.kind
    ++ (digits 1 f.group
    ++ (digits 1 f.process
    ++ (digits 1 f.replica
    ++ (digits 2 f.variable
    ++ (digits 2 f.spare6
    ++ (digits 8 f.timestamp.0
    ++ (digits 4 f.value
    ++ digits 4 f.spare20)))))))

-- a destination with the 24 bytes at its start, if it has room for them
abbrev pub put_in : Fields → List ℕ → List ℕ
put_in f destination = cond (leb record_size (length destination)) (bytes_of f ++ drop record_size destination) destination
