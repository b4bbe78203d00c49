-- Laws of specs/Lines.antt: what the code's calls write is the line, and how long lines and listings are. Assumes nothing.
use Prim.Native.Nat.{ℕ, suc, ◌+◌, ◌*◌, ◌/◌, ◌^◌, ◌≤◌, ◌<◌}
use mathlib.Core.Path.{◌≡◌, refl}
use mathlib.Core.Bool.{true, false}
use mathlib.Core.Logic.{⊎_elim}
use mathlib.Core.List.{List}
use native.Mathlib.Omega.{arith}
use native.Mathlib.Nat.{div-lt_iff_lt-mul, one-le-pow, lt_of_lt_of_le}
use lib.Dec.{eqb}
use lib.ListN.{length, get_or, length-append}
use Rattle.theory.proofs.Fold.{bool}
use Rattle.text.specs.Ascii.{ascii}
use Rattle.text.specs.Page.{texts_of}
use Rattle.text.specs.Fields.{word_text, set_text, field_text, node_text}
use Rattle.text.specs.Lines.{field_line, refused_line, losing_line, winning_line, head_line, start_line, allow_line, rank_line}
use Rattle.text.specs.Lines.{start_entry, start_at, start_lines, allow_entry, allow_at, allow_lines, rank_entry, rank_at, rank_lines}
use Rattle.text.proofs.Page.{texts_of_from, length_texts}
use Rattle.text.proofs.Fields.{field_laws, length_word, length_actions, length_field, length_node}

-- the lines of entries, one by one

pub starts_are : (a l : ℕ) (xs : List ℕ) → texts_of (start_entry a l) 0 xs ≡ start_lines a l xs
unfolding start_lines start_at
starts_are a l xs = texts_of_from (start_entry a l) xs

pub allows_are : (a l : ℕ) (xs : List ℕ) → texts_of (allow_entry a l) 0 xs ≡ allow_lines a l xs
unfolding allow_lines allow_at
allows_are a l xs = texts_of_from (allow_entry a l) xs

pub ranks_are : (a l : ℕ) (xs : List ℕ) → texts_of (rank_entry a l) 0 xs ≡ rank_lines a l xs
unfolding rank_lines rank_at
ranks_are a l xs = texts_of_from (rank_entry a l) xs

pub ruleset line_laws = (field_laws, starts_are, allows_are, ranks_are)

-- lengths

pub length_line : (name : List ℕ) (n k : ℕ) → n < 10 ^ suc k → length (field_line name n) ≤ length name + k + 2
unfolding field_line
length_line name n k h =
    let x : length (field_text name n) ≤ length name + suc k = length_field name n k h in
    rw length-append (omega arith)

-- numbers of k + 1 digits
pub length_refused : (n k : ℕ) → n < 10 ^ suc k → length (refused_line n) ≤ 10 + k
unfolding refused_line
length_refused n k h = let x : length (field_line (ascii "refused ") n) ≤ 8 + k + 2 = length_line (ascii "refused ") n k h in omega arith

pub length_losing : (m k : ℕ) → m < 10 ^ suc k → length (losing_line m) ≤ 9 + k
unfolding losing_line
length_losing m k h = let x : length (field_line (ascii "losing ") m) ≤ 7 + k + 2 = length_line (ascii "losing ") m k h in omega arith

pub length_winning : length winning_line ≡ 8
unfolding winning_line
length_winning = refl

-- a delay of i + 1 digits, positions of j + 1, actions of k + 1 and reached positions of l + 1
pub length_head : (d p a n i j k l : ℕ) → d < 10 ^ suc i → p < 10 ^ suc j → a < 10 ^ suc k → n < 10 ^ suc l
    → length (head_line d p a n) ≤ 39 + i + j + k + l
unfolding head_line
length_head d p a n i j k l f g h e =
    let x : length (field_text (ascii "lag ") d) ≤ 4 + suc i = length_field (ascii "lag ") d i f in
    let y : length (field_text (ascii " positions ") p) ≤ 11 + suc j = length_field (ascii " positions ") p j g in
    let z : length (field_text (ascii " commands ") a) ≤ 10 + suc k = length_field (ascii " commands ") a k h in
    let w : length (field_line (ascii " reached ") n) ≤ 9 + l + 2 = length_line (ascii " reached ") n l e in
    simp length-append (omega arith)

-- a word of at most w actions
pub length_start : (a l v w : ℕ) → 1 ≤ w → l ≤ w → length (start_line a l v) ≤ 7 + w
unfolding start_line
length_start a l v w h g = let x : length (word_text a l v) ≤ w = length_word a l v w h g in simp length-append (omega arith)

-- a position of d + 1 digits, a word of at most w actions and, of a rank, j + 1 digits
pub length_allow : (a l k mask d w : ℕ) → k / a ^ l < 10 ^ suc d → 1 ≤ w → l ≤ w → length (allow_line a l k mask) ≤ 15 + d + w + a
unfolding allow_line
length_allow a l k mask d w h g i =
    let x : length (node_text a l k) ≤ 7 + d + w = length_node a l k d w h g i in
    let y : length (set_text a mask) ≤ a = length_actions a mask in
    simp length-append (omega arith)

pub length_rank : (a l k rank d w j : ℕ) → k / a ^ l < 10 ^ suc d → 1 ≤ w → l ≤ w → rank < 10 ^ suc j
    → length (rank_line a l k rank) ≤ 15 + d + w + j
unfolding rank_line
length_rank a l k rank d w j h g i f =
    let x : length (node_text a l k) ≤ 7 + d + w = length_node a l k d w h g i in
    let y : length (field_line (ascii " rank ") rank) ≤ 6 + j + 2 = length_line (ascii " rank ") rank j f in
    rw length-append (omega arith)

-- many lines: an entry without a line adds nothing

length_start_at : (a l : ℕ) (flags : List ℕ) (v w : ℕ) → 1 ≤ w → l ≤ w → length (start_at a l flags v) ≤ 7 + w
unfolding start_at start_entry
length_start_at a l flags v w h g =
    ⊎_elim
    (λ (t : eqb (get_or flags v 0) 1 ≡ true). simp t (length_start a l v w h g))
    (λ (f : eqb (get_or flags v 0) 1 ≡ false). simp f (omega arith))
    (bool (eqb (get_or flags v 0) 1))

pub length_starts : (a l : ℕ) (flags : List ℕ) (w : ℕ) → 1 ≤ w → l ≤ w → length (start_lines a l flags) ≤ length flags * (7 + w)
unfolding start_lines
length_starts a l flags w h g =
    length_texts (start_at a l flags) 0 (length flags) (7 + w) (λ v x y. length_start_at a l flags v w h g)

length_allow_at : (a l : ℕ) (masks : List ℕ) (k d w : ℕ) → k / a ^ l < 10 ^ suc d → 1 ≤ w → l ≤ w
    → length (allow_at a l masks k) ≤ 15 + d + w + a
unfolding allow_at allow_entry
length_allow_at a l masks k d w h g i =
    ⊎_elim
    (λ (t : eqb (get_or masks k 0) 0 ≡ true). simp t (omega arith))
    (λ (f : eqb (get_or masks k 0) 0 ≡ false). simp f (length_allow a l k (get_or masks k 0) d w h g i))
    (bool (eqb (get_or masks k 0) 0))

length_rank_at : (a l : ℕ) (ranks : List ℕ) (k d w j : ℕ) → k / a ^ l < 10 ^ suc d → 1 ≤ w → l ≤ w → get_or ranks k 0 < 10 ^ suc j
    → length (rank_at a l ranks k) ≤ 15 + d + w + j
unfolding rank_at rank_entry
length_rank_at a l ranks k d w j h g i q =
    ⊎_elim
    (λ (t : eqb (get_or ranks k 0) 0 ≡ true). simp t (omega arith))
    (λ (f : eqb (get_or ranks k 0) 0 ≡ false). simp f (length_rank a l k (get_or ranks k 0) d w j h g i q))
    (bool (eqb (get_or ranks k 0) 0))

-- there are nodes for at most 10 ^ (d + 1) positions
module _ (a l : ℕ) (xs : List ℕ) (d w : ℕ) (some : 0 < a) (nodes : length xs ≤ 10 ^ suc d * a ^ l) (one : 1 ≤ w) (short : l ≤ w) where
  position_below : (k : ℕ) → k < length xs → k / a ^ l < 10 ^ suc d
  position_below k h = (div-lt_iff_lt-mul (one-le-pow l a some)).1 (lt_of_lt_of_le h nodes)

  pub length_allows : length (allow_lines a l xs) ≤ length xs * (15 + d + w + a)
  unfolding allow_lines
  length_allows =
      length_texts (allow_at a l xs) 0 (length xs) (15 + d + w + a)
      (λ k x y. length_allow_at a l xs k d w (position_below k (omega arith)) one short)

  pub length_ranks : (j : ℕ) → ((k : ℕ) → k < length xs → get_or xs k 0 < 10 ^ suc j)
      → length (rank_lines a l xs) ≤ length xs * (15 + d + w + j)
  unfolding rank_lines
  length_ranks j h =
      length_texts (rank_at a l xs) 0 (length xs) (15 + d + w + j)
      (λ k x y. length_rank_at a l xs k d w j (position_below k (omega arith)) one short (h k (omega arith)))
