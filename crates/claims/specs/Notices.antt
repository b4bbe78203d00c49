-- W-206 over bytes, as the customer reads it. s is the yard sheet, t a table sheet, ps and qs are notices, and out is an output as it was
-- lent. Assumes nothing.
use Rattle.std.specs.Prelude.{ℕ, ◌≤◌, ◌≡◌, Bool, List, [], ◌∷◌, length, take}
use Rattle.theory.specs.Fold.{any_of}
use Rattle.theory.specs.Answer.{Answer, refused, accepted}
use Rattle.theory.specs.Buffer.{over}
use Rattle.theory.specs.Closing.{listed}
use Rattle.notice.specs.Posting.{Written, posted_answer, posted_output}

-- "any winning sheet that posting accepts"
abbrev pub Accepts : List ℕ → List ℕ → List ℕ → List ℕ → Type 0
Accepts s t ps out = (w : Written) × (posted_answer s t ps out ≡ accepted w)

unfoldable pub size_in : Answer Written → ℕ
size_in (refused n) = 0
size_in (accepted w) = w.size

-- the sheet that a posting wrote: as many bytes of the output as its answer says
unfoldable pub sheet_after : List ℕ → List ℕ → List ℕ → List ℕ → List ℕ
sheet_after s t ps out = take (size_in (posted_answer s t ps out)) (posted_output s t ps out)

-- "the same sheet": no caller can tell ps posted on t from qs posted on u. Whatever output is lent, both give the same answer, about first
-- words too, or the same refusal, and leave the same bytes in it; and where both are accepted they write the same sheet, in any outputs
pub record SamePosting (s t ps u qs : List ℕ) : Type 0 where
  pub answer : (out : List ℕ) → posted_answer s t ps out ≡ posted_answer s u qs out
  pub output : (out : List ℕ) → posted_output s t ps out ≡ posted_output s u qs out
  pub sheet : (out out' : List ℕ) → Accepts s t ps out → Accepts s u qs out' → sheet_after s t ps out ≡ sheet_after s u qs out'

-- "leaves .. unaltered": wherever t has room, posting ps on it is accepted and writes t, byte for byte
pub record Unaltered (s t ps : List ℕ) : Type 0 where
  pub accepts : (out : List ℕ) → length t ≤ length out → Accepts s t ps out
  pub output : (out : List ℕ) → length t ≤ length out → posted_output s t ps out ≡ over t out
  pub sheet : (out : List ℕ) → length t ≤ length out → sheet_after s t ps out ≡ t

-- "Notices come by telephone from several bays": posted one after another, the first on t and each on the sheet that the one before wrote,
-- in any outputs. They are listed newest first, and the last of them wrote the last sheet named
pub data Series (s t : List ℕ) : List (List ℕ) → List ℕ → Type 0 where
  first : (ps out : List ℕ) → Accepts s t ps out → Series s t (ps ∷ []) (sheet_after s t ps out)
  next : {pss : List (List ℕ)} {u : List ℕ} → Series s t pss u → (ps out : List ℕ) → Accepts s u ps out
      → Series s t (ps ∷ pss) (sheet_after s u ps out)

-- position p stands in one of the notices
unfoldable pub named : List (List ℕ) → ℕ → Bool
named pss p = any_of (λ ps. listed ps p) pss
