-- Checks 2 to 7, as the code of src/checks.rt, lines.rt and reading.rt finds them. Assumes nothing.
use Prim.Native.Nat.{ℕ, zero, suc, ◌+◌, ◌-◌, ◌*◌, ◌/◌, ◌%◌, ◌≤◌, ◌<◌, ◌^◌}
use mathlib.Core.Path.{◌≡◌, refl, sym, ◌∙◌, ap}
use mathlib.Core.Bool.{Bool, true, false, cond}
use mathlib.Core.List.{List, []}
use native.Mathlib.Omega.{arith}
use native.Mathlib.Nat.{mul-le-mul_left, le_of_lt, mul-le-mul_right, zero-mul}
use native.Mathlib.Numerals.{add-one}
use lib.Dec.{leb}
use lib.ListN.{length, get_or, set, replicate}
use borrow.Author.Tests.{le-leb, lt-leb, lt-ltb, eq-eqb, ne_eqb, leb-false}
use Rattle.theory.specs.Fold.{both, either, all_below, any_below, tabulate}
use Rattle.theory.proofs.Fold.{all_same, all_at, all_below_lem, same_test, either_right, either_first, any_suc, both_second, both_true, both_left, both_right}
use Rattle.theory.proofs.Fold.{get_d_tabulate, tabulate_set, bool, below?}
use Rattle.std.specs.Prelude.{Option, Some, None, is_some}
use Rattle.sheet.specs.Kinds.{kind_of, kind_at, is_known, known_at}
use Rattle.sheet.specs.declared.kinds.Kind.{Kind}
use Rattle.sheet.proofs.ChunkLaws.{chunk_entry}
use Rattle.std.specs.Simd.{first_chunks}
use Rattle.std.proofs.lemmas.List.{get_or_default}
use Rattle.sheet.specs.Kinds.{controller_at}
use Rattle.reader.specs.Checks.{key_at, rises_at, target_ok, targets_ok, move_ok, moves_ok, begins_at, has_line, leaves_at, all_leave, positions_ok, size_ok}
use Rattle.sheet.specs.Size.{nodes_of}
use Rattle.reader.specs.code.Steps.{follows, target_sides, target_line, move_sides, move_line, leaves_by}
use Rattle.sheet.specs.code.Steps.{power_to, most_power}
use Rattle.sheet.specs.Limits.{most_positions, most_moves, most_nodes}
use mathlib.Core.Logic.{⊎_elim}

-- check 2

some_known : (k : Option Kind) → is_some k ≡ is_known k
unfolding is_known
some_known (Some kind) = refl
some_known None = refl

module _ (p : List ℕ) where
  pub known : (q : ℕ) → q < length p → is_some (kind_of (get_or p q 0)) ≡ known_at p q
  unfolding known_at kind_at
  known q h = rw (lt-ltb _ _ h) (some_known (kind_of (get_or p q 0)))

  pub positions_all : {r : Bool} → 1 ≤ length p → length p ≤ most_positions → r ≡ all_below (known_at p) (length p) → r ≡ positions_ok p
  unfolding positions_ok
  positions_all l m e = e ∙ sym (both_second _ _ (le-leb _ _ l) ∙ both_second _ _ (le-leb _ _ m))

all_both : (p q t : ℕ → Bool) (n : ℕ) → ((k : ℕ) → both (p k) (q k) ≡ t k) → both (all_below p n) (all_below q n) ≡ all_below t n
all_both p q t n same =
    same_test _ _
    (λ e. all_below_lem t n (λ k h. sym (same k) ∙ both_true _ _ (all_at p n (both_left _ _ e) k h) (all_at q n (both_right _ _ e) k h)))
    (λ e.
    both_true _ _
    (all_below_lem p n (λ k h. both_left _ _ (same k ∙ all_at t n e k h)))
    (all_below_lem q n (λ k h. both_right _ _ (same k ∙ all_at t n e k h))))

-- checks 4 and 5: lines of w bytes as arrays, each in order after the one before it

module _ (w : ℕ) (b : List ℕ) (xs : List (List ℕ)) (whole : xs ≡ first_chunks w (length b / w) b) (size : length xs ≡ length b / w) where
  line_entry : (k j : ℕ) → k < length xs → j < w → get_or (get_or xs k []) j 0 ≡ get_or b (w * k + j) 0
  line_entry k j h l = rw whole (chunk_entry w (length b / w) b k j (w * k + j) (omega (arith, size)) l refl)

  line_key : 1 < w → (k : ℕ) → k < length xs → key_at (get_or xs k []) 0 ≡ key_at b (w * k)
  unfolding key_at
  line_key n k h =
      let z : w * k + 0 ≡ w * k = omega arith in
      let first : get_or (get_or xs k []) 0 0 ≡ get_or b (w * k) 0 = line_entry k 0 h (omega arith) ∙ ap (λ i. get_or b i 0) z in
      rw (first, line_entry k 1 h n)

  line_follows : 1 < w → (k : ℕ) → k < length xs → follows xs k ≡ rises_at w b k
  unfolding rises_at either
  line_follows n zero h = refl
  line_follows n (suc k) h =
      let z : suc k - 1 ≡ k = omega arith in
      rw (z, line_key n k (omega arith), line_key n (suc k) h) refl

  -- all lines are right if all follow and each goes from side to side, p being that by index

  pub lines_right : 1 < w → (p : ℕ → Bool) (q : List ℕ → Bool) {t : Bool} → ((k : ℕ) → k < length xs → q (get_or xs k []) ≡ p k)
      → both (all_below (rises_at w b) (length b / w)) (all_below p (length b / w)) ≡ t
      → {r : Bool} → r ≡ all_below (λ k. both (follows xs k) (q (get_or xs k []))) (length xs) → r ≡ t
  lines_right n p q same ok e =
      e
      ∙ all_same (λ k. both (follows xs k) (q (get_or xs k []))) (λ k. both (rises_at w b k) (p k)) (length xs)
      (λ k h. let y = line_follows n k h in rw (y, same k h) refl)
      ∙ ap (all_below (λ k. both (rises_at w b k) (p k))) size
      ∙ sym (all_both (rises_at w b) p (λ k. both (rises_at w b k) (p k)) (length b / w) (λ k. refl))
      ∙ ok

both_swap : (a b : Bool) → both a b ≡ both b a
unfolding both
both_swap true true = refl
both_swap true false = refl
both_swap false true = refl
both_swap false false = refl

both_within : (a b c : Bool) → both (both a b) c ≡ both a (both b c)
unfolding both
both_within true b c = refl
both_within false b c = refl

-- check 4

module _ (p : List ℕ) (a : ℕ) where
  module _ (c : List ℕ) where
    abbrev pub target_sided : ℕ → Bool
    target_sided k = target_sides p a (get_or c (3 * k) 0) (get_or c (3 * k + 1) 0) (get_or c (3 * k + 2) 0)

    pub target_same : (xs : List (List ℕ)) → xs ≡ first_chunks 3 (length c / 3) c → length xs ≡ length c / 3 → (k : ℕ) → k < length xs
        → target_line p a (get_or xs k []) ≡ target_sided k
    target_same xs whole size k h =
        let z : 3 * k + 0 ≡ 3 * k = omega arith in
        let at = line_entry 3 c xs whole size k in
        rw (at 0 h (omega arith), at 1 h (omega arith), at 2 h (omega arith), z) refl

    pub targets_are : length c % 3 ≡ 0 → both (all_below (rises_at 3 c) (length c / 3)) (all_below target_sided (length c / 3)) ≡ targets_ok p a c
    unfolding targets_ok target_ok
    targets_are e =
        all_both (rises_at 3 c) target_sided (target_ok p a c) (length c / 3)
        (λ k. both_swap _ _ ∙ both_within _ _ _ ∙ ap (both (controller_at p (get_or c (3 * k) 0))) (both_within _ _ _))
        ∙ sym (both_second _ _ (eq-eqb _ _ e))

-- check 5

module _ (p : List ℕ) where
  module _ (u : List ℕ) where
    abbrev pub move_sided : ℕ → Bool
    move_sided k = move_sides p (get_or u (2 * k) 0) (get_or u (2 * k + 1) 0)

    pub move_same : (xs : List (List ℕ)) → xs ≡ first_chunks 2 (length u / 2) u → length xs ≡ length u / 2 → (k : ℕ) → k < length xs
        → move_line p (get_or xs k []) ≡ move_sided k
    move_same xs whole size k h =
        let z : 2 * k + 0 ≡ 2 * k = omega arith in
        let at = line_entry 2 u xs whole size k in
        rw (at 0 h (omega arith), at 1 h (omega arith), z) refl

    pub moves_are : length u % 2 ≡ 0 → length u / 2 ≤ most_moves
        → both (all_below (rises_at 2 u) (length u / 2)) (all_below move_sided (length u / 2)) ≡ moves_ok p u
    unfolding moves_ok move_ok
    moves_are e m =
        all_both (rises_at 2 u) move_sided (move_ok p u) (length u / 2) (λ k. both_swap _ _ ∙ both_within _ _ _)
        ∙ sym (both_second _ _ (eq-eqb _ _ e) ∙ both_second _ _ (le-leb _ _ m))

-- check 6

-- one pass over the lines of w bytes: l says which positions the first k lines begin with

module _ (w : ℕ) (b : List ℕ) where
  pub begun_none : replicate most_positions false ≡ tabulate (has_line w b 0) 0 most_positions
  unfolding has_line any_below tabulate
  begun_none = refl

  next : (k q : ℕ) → has_line w b (k + 1) q ≡ either (has_line w b k q) (begins_at w b q k)
  unfolding has_line
  next k q = rw (add-one k) (any_suc (begins_at w b q) k)

  this : (k v : ℕ) → v ≡ get_or b (w * k) 0 → has_line w b (k + 1) v ≡ true
  unfolding begins_at
  this k v e = next k v ∙ either_right _ _ (eq-eqb _ _ (sym e))

  other : (k v q : ℕ) → v ≡ get_or b (w * k) 0 → (q ≡ v → ⊥) → has_line w b (k + 1) q ≡ has_line w b k q
  unfolding begins_at
  other k v q e n = next k q ∙ either_first _ _ (ne_eqb _ _ (λ x. n (sym (e ∙ x))))

  -- x is line k of the lines as arrays, and v its first byte
  pub begun_more : (l : List (List ℕ)) → l ≡ first_chunks w (length b / w) b → length l ≡ length b / w → 0 < w → (k v : ℕ) (x : List ℕ) {m : List Bool}
      → m ≡ tabulate (has_line w b k) 0 most_positions → k < length l → x ≡ get_or l k x → v ≡ get_or x 0 0 → v < 256
      → set m v true ≡ tabulate (has_line w b (k + 1)) 0 most_positions
  begun_more l whole size some k v x {m} so_far h is e small =
      let j : w * k ≡ w * k + 0 = omega arith in
      let entry : get_or (get_or l k []) 0 0 ≡ get_or b (w * k) 0 = rw whole (chunk_entry w (length b / w) b k 0 (w * k) (omega arith) some j) in
      let same : get_or l k [] ≡ x = get_or_default l k [] x h ∙ sym is in
      let f : v ≡ get_or b (w * k) 0 = e ∙ ap (λ (y : List ℕ). get_or y 0 0) (sym same) ∙ entry in
      rw so_far
      (tabulate_set (has_line w b k) (has_line w b (k + 1)) most_positions v true small (this k v f) (λ q. other k v q f))

-- the positions that leave, by the passes over both bodies

module _ (p c u : List ℕ) where
  pub leaves_is : (q : ℕ) {t m : List Bool} → q < length p → length p ≤ most_positions
      → t ≡ tabulate (has_line 3 c (length c / 3)) 0 most_positions → m ≡ tabulate (has_line 2 u (length u / 2)) 0 most_positions
      → leaves_by p t m q ≡ leaves_at p c u q
  unfolding leaves_at leaves_by
  leaves_is q {t} {m} h l e f =
      let n : q < most_positions = omega arith in
      let a : get_or t q false ≡ has_line 3 c (length c / 3) q = ap (λ (x : List Bool). get_or x q false) e ∙ get_d_tabulate _ most_positions q false n in
      let b : get_or m q false ≡ has_line 2 u (length u / 2) q = ap (λ (x : List Bool). get_or x q false) f ∙ get_d_tabulate _ most_positions q false n in
      rw (a, b)

  pub leave_all : {r : Bool} {t m : List Bool} → length p ≤ most_positions → t ≡ tabulate (has_line 3 c (length c / 3)) 0 most_positions
      → m ≡ tabulate (has_line 2 u (length u / 2)) 0 most_positions → r ≡ all_below (leaves_by p t m) (length p) → r ≡ all_leave p c u
  unfolding all_leave
  leave_all {r} {t} {m} l e f g = g ∙ all_same (leaves_by p t m) (leaves_at p c u) (length p) (λ q h. leaves_is q h l e f)

-- check 7

-- cutting the power off at 65,536 does not change how the nodes compare with 16,384
cut_same : (n x : ℕ) → leb (n * cond (leb x most_power) x most_power) most_nodes ≡ leb (n * x) most_nodes
cut_same n x =
    ⊎_elim
    (λ (t : leb x most_power ≡ true). rw t)
    (λ (f : leb x most_power ≡ false).
    rw f
    (⊎_elim
    (λ (l : 0 < n).
    let big : 1 * most_power ≤ n * most_power = mul-le-mul_right most_power l in
    let more : n * most_power ≤ n * x = mul-le-mul_left n (le_of_lt (leb-false x most_power f)) in
    lt-leb (n * most_power) most_nodes (omega arith) ∙ sym (lt-leb (n * x) most_nodes (omega arith)))
    (λ (z : n ≤ 0). let none : n ≡ 0 = omega arith in rw (none, zero-mul most_power, zero-mul x))
    (below? 0 n)))
    (bool (leb x most_power))

pub size_is : (p : List ℕ) (a d n : ℕ) → n ≡ length p * power_to a (d / 2) → leb n most_nodes ≡ size_ok p a d
unfolding size_ok nodes_of power_to
size_is p a d n e = rw e (cut_same (length p) (a ^ (d / 2)))
