-- Laws of big-endian numbers, over the width. Assumes nothing.
use Prim.Native.Nat.{ℕ, zero, suc, ◌+◌, ◌*◌, ◌/◌, ◌%◌, ◌^◌, ◌≤◌, ◌<◌}
use mathlib.Core.Path.{◌≡◌, refl, ap, ◌∙◌}
use mathlib.Core.List.{List, [], ◌∷◌}
use lib.ListN.{length, take, drop, get_or, length-drop}
use lib.Seq.{length-take-le, drop-cons}
use lib.Arith.{digits_lt, digits_div, digits_mod, mod-mul}
use native.Mathlib.Nat.{pow-suc, pow-zero, div-add-mod', mod-lt, one-le-pow, div-one, mod-eq_of_lt, mul_comm}
use native.Mathlib.Omega.{arith}
use Rattle.std.specs.Int.{w16, w32, w64, from_be_bytes, byte_at, bytes_high_first}
use Rattle.layout.specs.Number.{Bytes, number, digits}

-- ── a list of bytes and its number ──

pub number_below : (bytes : List ℕ) → Bytes bytes → number bytes < 256 ^ length bytes
unfolding number
number_below [] h = rw (pow-zero 256) (omega arith)
number_below (byte ∷ bytes) h =
    rw (pow-suc 256 (length bytes), mul_comm (256 ^ length bytes) 256)
    (digits_lt {q = byte} {m = 256} {r = number bytes} {c = 256 ^ length bytes} (h 0) (number_below bytes (λ i. h (suc i))))

pub length_digits : (width x : ℕ) → length (digits width x) ≡ width
unfolding digits
length_digits zero x = refl
length_digits (suc width) x = ap suc (length_digits width (x % 256 ^ width))

-- the bytes of a number that fits its width say the number
pub number_digits : (width x : ℕ) → x < 256 ^ width → number (digits width x) ≡ x
unfolding number digits
number_digits zero x h = let h' : x < 1 = rw (pow-zero 256) at h in omega arith
number_digits (suc width) x h =
    rw (
      length_digits width (x % 256 ^ width),
      number_digits width (x % 256 ^ width) (mod-lt x (one-le-pow width 256 (omega arith))),
    ) (div-add-mod' x (256 ^ width))

-- bytes are the only ones of their length that say their number
pub digits_number : (bytes : List ℕ) → Bytes bytes → digits (length bytes) (number bytes) ≡ bytes
unfolding number digits
digits_number [] h = refl
digits_number (byte ∷ bytes) h =
    let small : number bytes < 256 ^ length bytes = number_below bytes (λ i. h (suc i)) in
    rw (digits_div byte small, digits_mod byte small, digits_number bytes (λ i. h (suc i)))

bytes_drop : (n : ℕ) (bytes : List ℕ) → Bytes bytes → Bytes (drop n bytes)
bytes_drop zero bytes h = h
bytes_drop (suc n) [] h = h
bytes_drop (suc n) (x ∷ bytes) h = bytes_drop n bytes (λ i. h (suc i))

bytes_take : (n : ℕ) (bytes : List ℕ) → Bytes bytes → Bytes (take n bytes)
bytes_take zero bytes h i = omega arith
bytes_take (suc n) [] h i = omega arith
bytes_take (suc n) (x ∷ bytes) h zero = h 0
bytes_take (suc n) (x ∷ bytes) h (suc i) = bytes_take n bytes (λ j. h (suc j)) i

-- the same of a part
pub digits-part : (bytes : List ℕ) → Bytes bytes → (at width : ℕ) → at + width ≤ length bytes → digits width (number (take width (drop at bytes))) ≡ take width (drop at bytes)
digits-part bytes h at width fits =
    let long : length (take width (drop at bytes)) ≡ width = length-take-le width (drop at bytes) (rw length-drop (omega arith)) in
    rw long at (digits_number (take width (drop at bytes)) (bytes_take width (drop at bytes) (bytes_drop at bytes h)))

-- ── the library's words for the same ──
byte_at_is : (width x : ℕ) → byte_at width x ≡ x / 256 ^ width % 256
byte_at_is zero x = rw (pow-zero 256, div-one x)
byte_at_is (suc width) x = refl

bytes_high_first_are_digits : (width x : ℕ) → bytes_high_first width x ≡ digits width (x % 256 ^ width)
unfolding digits
bytes_high_first_are_digits zero x = refl
bytes_high_first_are_digits (suc width) x =
    let high : x % 256 ^ suc width ≡ x / 256 ^ width % 256 * 256 ^ width + x % 256 ^ width =
    rw (pow-suc 256 width, mul_comm (256 ^ width) 256)
    (mod-mul x {m = 256} {c = 256 ^ width} (omega arith) (one-le-pow width 256 (omega arith))) in
    let small : x % 256 ^ width < 256 ^ width = mod-lt x (one-le-pow width 256 (omega arith)) in
    rw (
      high,
      digits_div (x / 256 ^ width % 256) small,
      digits_mod (x / 256 ^ width % 256) small,
      byte_at_is width x,
      bytes_high_first_are_digits width x,
    )

-- what to_be_bytes gives
pub to_be_is_digits : (width x : ℕ) → x < 256 ^ width → bytes_high_first width x ≡ digits width x
to_be_is_digits width x h = bytes_high_first_are_digits width x ∙ ap (digits width) (mod-eq_of_lt h)

-- the bytes at a place, one after another
abbrev pub cells : List ℕ → ℕ → ℕ → List ℕ
cells bytes at zero = []
cells bytes at (suc width) = get_or bytes at 0 ∷ cells bytes (suc at) width

take_cells : (bytes : List ℕ) (at width : ℕ) → at + width ≤ length bytes → take width (drop at bytes) ≡ cells bytes at width
take_cells bytes at zero h = refl
take_cells bytes at (suc width) h =
    rw (drop-cons bytes at 0 (omega arith))
    (ap (λ (l : List ℕ). get_or bytes at 0 ∷ l) (take_cells bytes (suc at) width (omega arith)))

-- what from_be_bytes gives of the bytes at a place
pub from_be_2 : (bytes : List ℕ) (at : ℕ) → at + 2 ≤ length bytes → from_be_bytes w16 (cells bytes at 2) ≡ number (take 2 (drop at bytes))
unfolding number
from_be_2 bytes at h = rw (take_cells bytes at 2 h) (omega arith)

pub from_be_4 : (bytes : List ℕ) (at : ℕ) → at + 4 ≤ length bytes → from_be_bytes w32 (cells bytes at 4) ≡ number (take 4 (drop at bytes))
unfolding number
from_be_4 bytes at h = rw (take_cells bytes at 4 h) (omega arith)

pub from_be_8 : (bytes : List ℕ) (at : ℕ) → at + 8 ≤ length bytes → from_be_bytes w64 (cells bytes at 8) ≡ number (take 8 (drop at bytes))
unfolding number
from_be_8 bytes at h = rw (take_cells bytes at 8 h) (omega arith)

pub byte_1 : (bytes : List ℕ) (at : ℕ) → at + 1 ≤ length bytes → get_or bytes at 0 ≡ number (take 1 (drop at bytes))
unfolding number
byte_1 bytes at h = rw (take_cells bytes at 1 h) (omega arith)
