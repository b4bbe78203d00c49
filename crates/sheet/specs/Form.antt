-- Document 01's house form: "a table of contents, then the bodies back to back". Entry k is a letter, an offset and a length of w
-- bytes each; a sheet is the list of its bytes. Numbers are compared as they are, so nothing wraps. Assumes nothing.
use Rattle.std.specs.Prelude.{ℕ, zero, suc, ◌+◌, ◌*◌, Bool, List, [], ◌∷◌, ◌++◌, eqb, leb, length, get_or, take, drop}
use Rattle.theory.specs.Fold.{both, all_below}
use Rattle.sheet.specs.declared.form.Place.{Place}
use Rattle.theory.specs.Bytes.{number_at, bytes_of}

unfoldable pub entry_size : ℕ → ℕ
entry_size w = 1 + 2 * w

unfoldable pub letter_of : ℕ → List ℕ → ℕ → ℕ
letter_of w s k = get_or s (entry_size w * k) 0

unfoldable pub offset_of : ℕ → List ℕ → ℕ → ℕ
offset_of w s k = number_at w s (entry_size w * k + 1)

unfoldable pub length_of : ℕ → List ℕ → ℕ → ℕ
length_of w s k = number_at w s (entry_size w * k + (1 + w))

-- where body k must begin, of n bodies: the first after the contents, each other where the last ended
unfoldable pub place_of : ℕ → ℕ → List ℕ → ℕ → ℕ
place_of w n s zero = entry_size w * n
place_of w n s (suc k) = place_of w n s k + length_of w s k

-- entry k has its letter, and its body begins where it must
unfoldable pub entry_ok : ℕ → List ℕ → List ℕ → ℕ → Bool
entry_ok w letters s k =
    both (eqb (letter_of w s k) (get_or letters k 0)) (eqb (offset_of w s k) (place_of w (length letters) s k))

-- what refusals 1 and 10 leave: room for the contents, every entry right, "the last ending with the sheet"
unfoldable pub contents_ok : ℕ → List ℕ → List ℕ → Bool
contents_ok w letters s =
    both (leb (entry_size w * length letters) (length s))
    (both (all_below (entry_ok w letters s) (length letters)) (eqb (place_of w (length letters) s (length letters)) (length s)))

-- where the contents say that body k lies
unfoldable pub placed_at : ℕ → List ℕ → ℕ → Place
placed_at w s k = record { at = offset_of w s k; size = length_of w s k }

-- that part of a sheet; what would lie past its end is left out
unfoldable pub part_at : List ℕ → Place → List ℕ
part_at s x = take x.size (drop x.at s)

unfoldable pub body_of : ℕ → List ℕ → ℕ → List ℕ
body_of w s k = part_at s (placed_at w s k)

-- a body with its letter
pub record Part : Type 0 where
  pub letter : ℕ
  pub body : List ℕ

abbrev pub part : ℕ → List ℕ → Part
part letter body = record { letter = letter; body = body }

-- "An entry is a letter, an offset and a length", the body's place being at
unfoldable pub entry_of : ℕ → ℕ → Part → List ℕ
entry_of w at x = x.letter ∷ (bytes_of w at ++ bytes_of w (length x.body))

-- the entries of parts whose bodies begin at a place, one after the other
unfoldable pub entries_from : ℕ → ℕ → List Part → List ℕ
entries_from w at [] = []
entries_from w at (x ∷ rest) = entry_of w at x ++ entries_from w (at + length x.body) rest

unfoldable pub bodies : List Part → List ℕ
bodies [] = []
bodies (x ∷ rest) = x.body ++ bodies rest

unfoldable pub sheet_of : ℕ → List Part → List ℕ
sheet_of w parts = entries_from w (entry_size w * length parts) parts ++ bodies parts
