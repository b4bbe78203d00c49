-- Laws of specs/Page.antt: writing composes, and a text that fits stands whole on the page. Assumes nothing.
use Prim.Native.Nat.{ℕ, zero, suc, ◌+◌, ◌*◌, ◌≤◌, ◌<◌}
use mathlib.Core.Path.{◌≡◌, refl, sym, ap, ◌∙◌}
use mathlib.Core.Logic.{⊎_elim}
use mathlib.Core.List.{List, [], ◌∷◌, ◌++◌, append_assoc}
use Rattle.std.proofs.lemmas.List.{append-nil, take_more}
use native.Mathlib.Omega.{arith}
use native.Mathlib.Numerals.{add-one}
use native.Mathlib.Nat.{suc-mul}
use lib.ListN.{length, take, drop, set, get_or, length-set, length-append, length-take}
use lib.Seq.{sets, sets-eq, drop-cons, drop-length}
use borrow.Author.Tests.{lt-ltb, le-ltb}
use Rattle.theory.proofs.Fold.{below?}
use Rattle.text.specs.declared.buffer.Page as lent
use Rattle.text.specs.Page.{Page, page, put, puts, held, Puts, texts_from, texts_of}

-- a byte with room for it
pub byte_in : (l : List ℕ) (n b : ℕ) → n < length l → page (set l n b) (n + 1) ≡ puts (page l n) (b ∷ [])
unfolding put puts
byte_in l n b h = simp (lt-ltb n (length l) h)

pub puts_nil : (p : Page) → puts p [] ≡ p
unfolding puts
puts_nil p = refl

pub puts_cons : (p : Page) (b : ℕ) (t : List ℕ) → puts p (b ∷ t) ≡ puts (puts p (b ∷ [])) t
unfolding puts
puts_cons p b t = refl

pub puts_append : (p : Page) (t u : List ℕ) → puts p (t ++ u) ≡ puts (puts p t) u
unfolding puts
puts_append p [] u = refl
puts_append p (b ∷ t) u = puts_append (put p b) t u

-- one text after another
pub after : (p : Page) (t u : List ℕ) {q r : Page} → q ≡ puts p t → r ≡ puts q u → r ≡ puts p (t ++ u)
after p t u e f = f ∙ ap (λ s. puts s u) e ∙ sym (puts_append p t u)

-- a text that fits

puts_sets : (t l : List ℕ) (n : ℕ) → n + length t ≤ length l → puts (page l n) t ≡ page (sets l n t) (n + length t)
puts_sets [] l n h = let e : n ≡ n + 0 = omega arith in puts_nil (page l n) ∙ ap (page l) e
puts_sets (b ∷ t) l n h =
    let k : n < length l = omega arith in
    let g : suc n + length t ≤ length (set l n b) = rw length-set (omega arith) in
    let e : suc n + length t ≡ n + suc (length t) = omega arith in
    puts_cons (page l n) b t
    ∙ ap (λ q. puts q t) (sym (byte_in l n b k) ∙ ap (page (set l n b)) (add-one n))
    ∙ puts_sets t (set l n b) (suc n) g
    ∙ ap (page (sets (set l n b) (suc n) t)) e

-- it stands there whole; what lies before and beyond is untouched
pub written_at : (t l : List ℕ) (n : ℕ) → n + length t ≤ length l
    → puts (page l n) t ≡ page (take n l ++ t ++ drop (n + length t) l) (n + length t)
written_at t l n h = puts_sets t l n h ∙ ap (λ s. page s (n + length t)) (sets-eq t l n h)

pub written : (t l : List ℕ) → length t ≤ length l → puts (page l 0) t ≡ page (t ++ drop (length t) l) (length t)
written t l h =
    let e : 0 + length t ≡ length t = omega arith in
    written_at t l 0 (omega arith) ∙ ap (λ n. page (t ++ drop n l) n) e

-- any text: the buffer keeps its length, and the place stays within it

put_length : (l : List ℕ) (n b : ℕ) → length (put (page l n) b).bytes ≡ length l
unfolding put
put_length l n b =
    ⊎_elim
    (λ (h : n < length l). simp (lt-ltb n (length l) h, length-set))
    (λ (h : length l ≤ n). simp (le-ltb n (length l) h))
    (below? n (length l))

put_within : (l : List ℕ) (n b : ℕ) → n ≤ length l → (put (page l n) b).at ≤ length l
unfolding put
put_within l n b g =
    ⊎_elim
    (λ (h : n < length l). simp (lt-ltb n (length l) h) (omega arith))
    (λ (h : length l ≤ n). simp (le-ltb n (length l) h) g)
    (below? n (length l))

pub puts_length : (t : List ℕ) (p : Page) → length (puts p t).bytes ≡ length p.bytes
unfolding puts
puts_length [] p = refl
puts_length (b ∷ t) p = puts_length t (put p b) ∙ put_length p.bytes p.at b

pub puts_within : (t : List ℕ) (p : Page) → p.at ≤ length p.bytes → (puts p t).at ≤ length p.bytes
unfolding puts
puts_within [] p h = h
puts_within (b ∷ t) p h =
    let e = put_length p.bytes p.at b in
    rw e at (puts_within t (put p b) (rw e (put_within p.bytes p.at b h)))

-- the place that a writer returns is within the buffer
pub place_within : (t l l' : List ℕ) (at r : ℕ) → at ≤ length l → page l' r ≡ puts (page l at) t → r ≤ length l'
place_within t l l' at r h e =
    let a : r ≡ (puts (page l at) t).at = ap (λ p. p.at) e in
    let b : length l' ≡ length l = ap (λ p. length p.bytes) e ∙ puts_length t (page l at) in
    rw (a, b) (puts_within t (page l at) h)

-- many texts, one after the other

texts_suc : (f : ℕ → List ℕ) (k n : ℕ) → texts_from f k (suc n) ≡ f k ++ texts_from f (suc k) n
unfolding texts_from
texts_suc f k n = refl

pub texts_none : (f : ℕ → List ℕ) (k : ℕ) → texts_from f k 0 ≡ []
unfolding texts_from
texts_none f k = refl

pub texts_same : (f g : ℕ → List ℕ) (k n : ℕ) → ((i : ℕ) → f i ≡ g i) → texts_from f k n ≡ texts_from g k n
unfolding texts_from
texts_same f g k zero h = refl
texts_same f g k (suc n) h = ap (λ t. t ++ texts_from f (suc k) n) (h k) ∙ ap (λ t. g k ++ t) (texts_same f g (suc k) n h)

-- one entry more
texts_more : (f : ℕ → List ℕ) (k n : ℕ) → texts_from f k (suc n) ≡ texts_from f k n ++ f (k + n)
texts_more f k zero =
    let e : k ≡ k + 0 = omega arith in
    texts_suc f k zero
    ∙ ap (λ t. f k ++ t) (texts_none f (suc k))
    ∙ append-nil (f k)
    ∙ ap f e
    ∙ sym (ap (λ t. t ++ f (k + 0)) (texts_none f k))
texts_more f k (suc n) =
    let e : suc k + n ≡ k + suc n = omega arith in
    texts_suc f k (suc n)
    ∙ ap (λ t. f k ++ t) (texts_more f (suc k) n ∙ ap (λ i. texts_from f (suc k) n ++ f i) e)
    ∙ sym (append_assoc (f k) (texts_from f (suc k) n) (f (k + suc n)))
    ∙ ap (λ t. t ++ f (k + suc n)) (sym (texts_suc f k n))

-- the texts of a loop as far as it has come
pub texts_next : (f : ℕ → List ℕ) (k : ℕ) → texts_from f 0 (k + 1) ≡ texts_from f 0 k ++ f k
texts_next f k =
    let e : 0 + k ≡ k = omega arith in
    ap (texts_from f 0) (add-one k) ∙ texts_more f 0 k ∙ ap (λ i. texts_from f 0 k ++ f i) e

pub take_next : (l : List ℕ) (k : ℕ) → k < length l → take (k + 1) l ≡ take k l ++ (get_or l k 0 ∷ [])
take_next l k h = take_more l k 0 h

-- the texts of entries, in the same way

texts_of_suc : {T : Type 0} (f : ℕ → T → List ℕ) (k : ℕ) (x : T) (xs : List T) → texts_of f k (x ∷ xs) ≡ f k x ++ texts_of f (suc k) xs
unfolding texts_of
texts_of_suc f k x xs = refl

pub texts_of_none : {T : Type 0} (f : ℕ → T → List ℕ) (k : ℕ) → texts_of f k [] ≡ []
unfolding texts_of
texts_of_none f k = refl

texts_of_more : {T : Type 0} (f : ℕ → T → List ℕ) (xs : List T) (k : ℕ) (x : T) → texts_of f k (xs ++ (x ∷ [])) ≡ texts_of f k xs ++ f (k + length xs) x
texts_of_more f [] k x =
    let e : k ≡ k + 0 = omega arith in
    texts_of_suc f k x []
    ∙ ap (λ t. f k x ++ t) (texts_of_none f (suc k))
    ∙ append-nil (f k x)
    ∙ ap (λ i. f i x) e
    ∙ sym (ap (λ t. t ++ f (k + 0) x) (texts_of_none f k))
texts_of_more f (y ∷ xs) k x =
    let e : suc k + length xs ≡ k + suc (length xs) = omega arith in
    texts_of_suc f k y (xs ++ (x ∷ []))
    ∙ ap (λ t. f k y ++ t) (texts_of_more f xs (suc k) x ∙ ap (λ i. texts_of f (suc k) xs ++ f i x) e)
    ∙ sym (append_assoc (f k y) (texts_of f (suc k) xs) (f (k + suc (length xs)) x))
    ∙ ap (λ t. t ++ f (k + suc (length xs)) x) (sym (texts_of_suc f k y xs))

-- as texts of a number alone
texts_of_drop : (f : ℕ → ℕ → List ℕ) (xs : List ℕ) (k n : ℕ) → k + n ≡ length xs → texts_of f k (drop k xs) ≡ texts_from (λ i. f i (get_or xs i 0)) k n
texts_of_drop f xs k zero e =
    let q : k ≡ length xs = omega arith in
    ap (texts_of f k) (rw q (drop-length xs)) ∙ texts_of_none f k ∙ sym (texts_none (λ i. f i (get_or xs i 0)) k)
texts_of_drop f xs k (suc n) e =
    ap (texts_of f k) (drop-cons xs k 0 (omega arith))
    ∙ texts_of_suc f k (get_or xs k 0) (drop (suc k) xs)
    ∙ ap (λ t. f k (get_or xs k 0) ++ t) (texts_of_drop f xs (suc k) n (omega arith))
    ∙ sym (texts_suc (λ i. f i (get_or xs i 0)) k n)

pub texts_of_from : (f : ℕ → ℕ → List ℕ) (xs : List ℕ) → texts_of f 0 xs ≡ texts_from (λ i. f i (get_or xs i 0)) 0 (length xs)
texts_of_from f xs = texts_of_drop f xs 0 (length xs) (omega arith)

-- the next entry of a loop is written
pub entry_next : {T : Type 0} (f : ℕ → T → List ℕ) (xs : List T) (k : ℕ) (x : T) {p q r : lent.Page} → k < length xs
    → x ≡ get_or xs k x → Puts p (texts_of f 0 (take k xs)) q → Puts q (f k x) r → Puts p (texts_of f 0 (take (k + 1) xs)) r
entry_next f xs k x {p} h i e g =
    let j : 0 + length (take k xs) ≡ k = rw length-take (omega arith) in
    let n : texts_of f 0 (take (k + 1) xs) ≡ texts_of f 0 (take k xs) ++ f k x =
    ap (texts_of f 0) (take_more xs k x h ∙ ap (λ y. take k xs ++ (y ∷ [])) (sym i)) ∙ texts_of_more f (take k xs) 0 x ∙ ap (λ i. texts_of f 0 (take k xs) ++ f i x) j in
    record {
      same_reference = g.same_reference ∙ e.same_reference;
      text = after (held p) (texts_of f 0 (take k xs)) (f k x) e.text g.text ∙ ap (puts (held p)) (sym n);
    }

-- as the code asks them: what was written is one text
pub ruleset writing = (puts_nil, puts_append, texts_none, texts_next, texts_of_none, take_next)

-- lengths

pub length_all : (f : ℕ → List ℕ) (k n b : ℕ) → ((i : ℕ) → length (f i) ≡ b) → length (texts_from f k n) ≡ n * b
length_all f k zero b h = rw texts_none (omega arith)
length_all f k (suc n) b h =
    let x : length (f k) ≡ b = h k in
    let y : length (texts_from f (suc k) n) ≡ n * b = length_all f (suc k) n b h in
    rw (texts_suc f k n, length-append, suc-mul) (omega arith)

pub length_texts : (f : ℕ → List ℕ) (k n b : ℕ) → ((i : ℕ) → k ≤ i → i < k + n → length (f i) ≤ b) → length (texts_from f k n) ≤ n * b
length_texts f k zero b h = rw texts_none (omega arith)
length_texts f k (suc n) b h =
    let x : length (f k) ≤ b = h k (omega arith) (omega arith) in
    let y : length (texts_from f (suc k) n) ≤ n * b = length_texts f (suc k) n b (λ i l g. h i (omega arith) (omega arith)) in
    rw (texts_suc f k n, length-append, suc-mul) (omega arith)
