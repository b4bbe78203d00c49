-- A page is a lent buffer with the place in it where the next byte goes. Writing on it needs no room: what does not fit is
-- left out. Assumes nothing.
use Rattle.text.specs.declared.buffer.Page as lent
use Rattle.std.specs.Prelude.{ℕ, zero, suc, ◌+◌, ◌≡◌, cond, List, [], ◌∷◌, ◌++◌, ltb, length, set}

pub record Page : Type 0 where
  pub bytes : List ℕ
  pub at : ℕ

abbrev pub page : List ℕ → ℕ → Page
page l n = record { bytes = l; at = n }

unfoldable pub put : Page → ℕ → Page
put p b = cond (ltb p.at (length p.bytes)) (page (set p.bytes p.at b) (p.at + 1)) p

unfoldable pub puts : Page → List ℕ → Page
puts p [] = p
puts p (b ∷ t) = puts (put p b) t

-- the contract of every writer: the text t, written at a place of the buffer b, leaves the buffer b' with the next place n
abbrev pub Writes : List ℕ → ℕ → List ℕ → List ℕ → ℕ → Type 0
Writes b at t b' n = page b' n ≡ puts (page b at) t

-- what a lent page holds
abbrev pub held : lent.Page → Page
held p = page p.out.now p.at

-- the contract of every writer on a page: the text t is written, on the buffer that was lent
pub record Puts (p : lent.Page) (t : List ℕ) (q : lent.Page) : Type 0 where
  pub same_reference : q.out.ghost_name ≡ p.out.ghost_name
  pub text : held q ≡ puts (held p) t

-- the texts f k, f (k + 1), .. of n entries, one after the other: what every loop of writers writes
unfoldable pub texts_from : (ℕ → List ℕ) → ℕ → ℕ → List ℕ
texts_from f k zero = []
texts_from f k (suc n) = f k ++ texts_from f (suc k) n

-- the texts f k x of the entries x, numbered from k, one after the other
unfoldable pub texts_of : {T : Type 0} → (ℕ → T → List ℕ) → ℕ → List T → List ℕ
texts_of f k [] = []
texts_of f k (x ∷ xs) = f k x ++ texts_of f (suc k) xs
