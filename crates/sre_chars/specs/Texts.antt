-- Where a cursor is in a text.
use Rattle.std.specs.Prelude.{◌≡◌, ◌≢◌, ◌<◌, ◌≤◌, ℕ, ◌-◌, Bool, true, false, ◌||◌, nat_le, nat_lt}
use Rattle.std.specs.Prelude.{List, length, take, count_by, slice_index}
use Rattle.std.specs.Str.{chars, encode_utf8_all}

-- a place in a text: the characters before it, and the bytes that these take
pub record Cursor : Type 0 where
  pub position : ℕ
  pub offset : ℕ

-- in bytes, each of which is a character, the offset is the position
abbrev pub StandsInBytes : List ℕ → Cursor → ℕ → Type 0
StandsInBytes bytes c p = (c.position ≡ p) × (c.offset ≡ p) × (p ≤ length bytes)

-- how many bytes the first p characters of UTF-8 text take
abbrev pub offset_of : List ℕ → ℕ → ℕ
offset_of bytes p = length (encode_utf8_all (take p (chars bytes)))

-- in UTF-8 text the offset is the bytes of the characters before the position
abbrev pub StandsInText : List ℕ → Cursor → ℕ → Type 0
StandsInText bytes c p = (c.position ≡ p) × (c.offset ≡ offset_of bytes p) × (p ≤ length (chars bytes))

-- a byte at which a character begins: all but 10xxxxxx
abbrev pub begins_char : ℕ → Bool
begins_char byte = nat_lt byte 128 || nat_le 192 byte

-- how many characters begin in the first n bytes
abbrev pub begun : List ℕ → ℕ → ℕ
begun bytes n = count_by begins_char (take n bytes)

-- from one position up to another no character is c
abbrev pub NoneIs : List ℕ → ℕ → ℕ → ℕ → Type 0
NoneIs text c from to = (q : ℕ) → from ≤ q → q < to → slice_index text q ≢ c

-- `to` is behind the first c from `from` on, where one is before `end`, and `end` else
abbrev pub Sought : List ℕ → ℕ → ℕ → ℕ → Bool → ℕ → Type 0
Sought text c from end true to =
    (from < to) × (to ≤ end) × (slice_index text (to - 1) ≡ c) × NoneIs text c from (to - 1)
Sought text c from end false to = (to ≡ end) × NoneIs text c from end
