-- A pending request as a row of four words, and the request of any row.
use Rattle.std.specs.Prelude.{ℕ, ◌+◌, ◌*◌, ◌/◌, ◌%◌, List, [], ◌∷◌, get_or}
use Rattle.rules.specs.declared.Pending.{Pending}

-- its timestamp; its arrival; its kind, group, process and variable, of 8, 8, 8 and 16 bits; its value
abbrev pub row_of : Pending → List ℕ
row_of p =
    let r = p.request in
    r.timestamp.0
    ∷ p.arrival.0
    ∷ (r.kind + 256 * r.group + 65536 * (r.process + 256 * r.variable))
    ∷ r.value
    ∷ []

-- what a row holds past those bits is not looked at
unfoldable pub pending_of : List ℕ → Pending
pending_of row =
    let what = get_or row 2 0 in
    record {
      request = record {
        kind = what % 256;
        group = what / 256 % 256;
        process = what / 65536 % 256;
        variable = what / 16777216 % 65536;
        timestamp = record { 0 = get_or row 0 0 };
        value = get_or row 3 0 % 4294967296;
      };
      arrival = record { 0 = get_or row 1 0 };
    }
