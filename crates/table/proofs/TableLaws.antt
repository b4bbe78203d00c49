-- Checks 10 to 12 and the masks, as the code of src/reading.rt finds them: the checks before have passed, and one fails.
-- Assumes nothing.
use Prim.Native.Nat.{ℕ, ◌+◌, ◌*◌, ◌/◌, ◌%◌, ◌^◌, ◌≤◌, ◌<◌}
use mathlib.Core.Path.{◌≡◌, refl, sym, ◌∙◌, ap, ap₂}
use mathlib.Core.Bool.{Bool, true, false, not}
use mathlib.Core.Logic.{⊎_elim}
use mathlib.Core.List.{List, [], ◌∷◌}
use native.Mathlib.Omega.{arith}
use native.Mathlib.Nat.{div-eq_of_lt, div-lt_iff_lt-mul, mul-le-mul, one-mul, pow-zero, pow-suc}
use lib.Bits.{bit_or, or_lt, or_add_and, and_le_l, and_le_r}
use lib.Dec.{eqb, ltb}
use lib.Pow.{pow_pos, pow_mono, pow-add}
use lib.ListN.{length, get_or}
use mir.Syntax.{w64}
use mir.Val.{Fits}
use borrow.Author.Rules.{rules}
use borrow.Author.Tests.{leb-true, le-leb, lt-leb, lt-ltb, le-ltb, eq-eqb, ne_eqb}
use Rattle.std.specs.List.{fold, list_all}
use Rattle.sheet.proofs.ChainLaws.{all_elements}
use Rattle.theory.specs.Fold.{both}
use Rattle.theory.specs.Answer.{Answer, refused, accepted, check, on_accepted}
use Rattle.theory.specs.Strategy.{initial_length}
use Rattle.theory.specs.Table.{Table, flagged}
use Rattle.theory.proofs.Answer.{check_passed, check_failed, check_both}
use Rattle.theory.proofs.Fold.{bool, below?, both_first, both_true, both_false, both_left, both_right, all_below_lem, both_none, both_second, failed, passed}
use Rattle.sheet.specs.Limits.{width, most_actions, most_delay, most_nodes}
use Rattle.sheet.specs.Form.{contents_ok, part_at, body_of}
use Rattle.sheet.specs.Size.{nodes_of}
use Rattle.sheet.specs.code.Steps.{power_to, most_power}
use Rattle.std.specs.Prelude.{Result, Ok}
use Rattle.sheet.specs.Refusals.{answer_by}
use Rattle.sheet.specs.declared.refusal.Refusal.{Refusal}
use Rattle.table.specs.TableSheet.{TableSheet, table_letters, table_layout, says, table_at, decode, table_nodes, numbers_ok, below_at, bytes_below, bodies_ok, shape_answer, some_flagged, table_answer}
use Rattle.table.specs.code.Steps.{ranges_ok, filled_ok}
use Rattle.table.specs.declared.reading.TableLayout.{TableLayout}
use Rattle.sheet.proofs.RefusalLaws.{by_accepted}
use Rattle.sheet.proofs.SizeLaws.{power_bound, small_power}

-- the number of first words

module _ (A d n : ℕ) where
  pub words_odd : (v : ℕ) → (d % 2 ≡ 0 → ⊥) → v ≡ A → n * v ≡ n * A ^ (d % 2)
  words_odd v e q = let z : d % 2 ≡ 1 = omega arith in rw (z, q, pow-suc A 0, pow-zero A, one-mul A)

-- no byte with a bit at n or above, which is one below 2 ^ n; a is what the bytes before k have together

or_below : (n a x : ℕ) → ltb (bit_or a x) (2 ^ n) ≡ both (ltb a (2 ^ n)) (ltb x (2 ^ n))
or_below n a x =
    ⊎_elim
    (λ (h : a < 2 ^ n).
    ⊎_elim
    (λ (g : x < 2 ^ n). lt-ltb _ _ (or_lt n a x h g) ∙ sym (both_true _ _ (lt-ltb _ _ h) (lt-ltb _ _ g)))
    (λ (g : 2 ^ n ≤ x). le-ltb (bit_or a x) (2 ^ n) (omega (arith, or_add_and a x, and_le_l a x)) ∙ sym (both_false _ _ (le-ltb _ _ g)))
    (below? x (2 ^ n)))
    (λ (h : 2 ^ n ≤ a). le-ltb (bit_or a x) (2 ^ n) (omega (arith, or_add_and a x, and_le_r a x)) ∙ sym (both_none _ _ (le-ltb _ _ h)))
    (below? a (2 ^ n))

fold_below : (n a : ℕ) (b : List ℕ) → ltb (fold bit_or a b) (2 ^ n) ≡ both (ltb a (2 ^ n)) (list_all (λ x. ltb x (2 ^ n)) b)
fold_below n a [] = sym (both_first _ _ refl)
fold_below n a (x ∷ b) =
    fold_below n (bit_or a x) b
    ∙ ap (λ t. both t (list_all (λ x. ltb x (2 ^ n)) b)) (or_below n a x)
    ∙ ⊎_elim
    (λ (t : ltb x (2 ^ n) ≡ true). rw (t, both_first (ltb a (2 ^ n)) true refl))
    (λ (f : ltb x (2 ^ n) ≡ false). rw (f, both_false (ltb a (2 ^ n)) false refl) (both_none _ _ refl))
    (bool (ltb x (2 ^ n)))

module _ (n : ℕ) (b : List ℕ) where
  -- every byte is below 256
  pub bits_all : ((k : ℕ) → get_or b k 0 < 256) → 8 ≤ n → true ≡ bytes_below (2 ^ n) b
  unfolding bytes_below below_at
  bits_all small h =
      let most : 256 ≤ 2 ^ n = pow_mono h in
      sym (all_below_lem (below_at (2 ^ n) b) (length b) (λ k i. lt-ltb (get_or b k 0) (2 ^ n) (omega (arith, small k))))

  pub bits_folded : {a : ℕ} → a ≡ fold bit_or 0 b → eqb (a / 2 ^ n) 0 ≡ bytes_below (2 ^ n) b
  unfolding bytes_below below_at
  bits_folded {a} e =
      quotient
      ∙ ap (λ a. ltb a (2 ^ n)) e
      ∙ fold_below n 0 b
      ∙ both_second _ _ (lt-ltb 0 (2 ^ n) (pow_pos n))
      ∙ all_elements (λ x. ltb x (2 ^ n)) 0 (below_at (2 ^ n) b) b (λ k l. refl)
    where
      quotient : eqb (a / 2 ^ n) 0 ≡ ltb a (2 ^ n)
      quotient =
          ⊎_elim
          (λ (h : a < 2 ^ n). eq-eqb _ _ (div-eq_of_lt h) ∙ sym (lt-ltb _ _ h))
          (λ (h : 2 ^ n ≤ a). ne_eqb (a / 2 ^ n) 0 (λ (z : a / 2 ^ n ≡ 0). omega (arith, (div-lt_iff_lt-mul {k = 2 ^ n} {x = a} {y = 1} (pow_pos n)).0 (omega arith))) ∙ sym (le-ltb _ _ h))
          (below? a (2 ^ n))

-- 11, the number of nodes and the W and T bodies; d and v are the delay and the highest position as numbers, p is a power, n how many
-- nodes there are, x how many first words, r a test's result

pub nodes_fit : (v h p : ℕ) → v ≡ h → h < 256 → p ≤ most_power → Fits w64 ((v + 1) * p)
nodes_fit v h p e s l = let m : (v + 1) * p ≤ 256 * most_power = mul-le-mul {n₂ = 256} (omega arith) l in record { fits = omega arith }

module _ (l : TableLayout) (w t : List ℕ) (few : l.actions ≤ most_actions) (short : l.delay ≤ most_delay) (d v p : ℕ) (ed : d ≡ l.delay)
    (ev : v ≡ l.highest) (ep : p ≡ power_to l.actions (d / 2)) where
  pending_are : p ≡ l.actions ^ (l.delay / 2)
  pending_are =
      ep
      ∙ ap (λ d. power_to l.actions (d / 2)) ed
      ∙ small_power l.actions (l.delay / 2) (power_bound l.actions (l.delay / 2) few (omega arith))

  nodes_are : (v + 1) * p ≡ table_nodes (says l w t)
  unfolding table_nodes nodes_of
  nodes_are = ap₂ (λ v p. (v + 1) * p) ev pending_are

  pub nodes_over : most_nodes < (v + 1) * p → false ≡ filled_ok (says l w t)
  unfolding filled_ok
  nodes_over h = sym (both_none _ _ (lt-leb _ _ (rw nodes_are at h)))

  module _ (h : (v + 1) * p ≤ most_nodes) where
    in_range : filled_ok (says l w t) ≡ bodies_ok (says l w t)
    unfolding filled_ok
    in_range = both_second _ _ (le-leb _ _ (rw nodes_are at h))

    pub nodes_wrong : (length t ≡ (v + 1) * p → ⊥) → false ≡ filled_ok (says l w t)
    unfolding bodies_ok
    nodes_wrong e = sym (in_range ∙ both_false _ _ (both_none _ _ (ne_eqb _ _ (λ f. e (f ∙ sym nodes_are)))))

    module _ (x : ℕ) (ex : x ≡ p * l.actions ^ (l.delay % 2)) where
      words_are : x ≡ l.actions ^ initial_length l.delay
      words_are =
          let q : l.delay / 2 + l.delay % 2 ≡ initial_length l.delay = omega arith in
          ex
          ∙ ap (λ p. p * l.actions ^ (l.delay % 2)) pending_are
          ∙ sym (pow-add l.actions (l.delay / 2) (l.delay % 2))
          ∙ ap (λ n. l.actions ^ n) q

      pub words_wrong : (length w ≡ x → ⊥) → false ≡ filled_ok (says l w t)
      unfolding bodies_ok
      words_wrong e = sym (in_range ∙ both_none _ _ (ne_eqb _ _ (λ f. e (f ∙ sym words_are))))

      module _ (r : Bool) (er : r ≡ bytes_below 2 w) where
        pub flag_over : not r ≡ true → false ≡ filled_ok (says l w t)
        unfolding bodies_ok
        flag_over g = sym (in_range ∙ both_false _ _ (both_false _ _ (both_none _ _ (failed er g))))

        pub bodies_end : (q : Bool) → length t ≡ (v + 1) * p → length w ≡ x → not r ≡ false → q ≡ bytes_below (2 ^ l.actions) t
            → q ≡ filled_ok (says l w t)
        unfolding bodies_ok
        bodies_end q et ew g eq =
            eq
            ∙ sym
            (in_range
            ∙ both_second _ _ (eq-eqb _ _ (ew ∙ words_are))
            ∙ both_second _ _ (eq-eqb _ _ (et ∙ nodes_are))
            ∙ both_second _ _ (passed er g))

pub ruleset bodies = (rules, nodes_fit, nodes_over, nodes_wrong, words_wrong, flag_over, bodies_end)

-- 10 and 11 in their order

ranges_any : (l : TableLayout) (a b : List ℕ) → ranges_ok (says l [] []) ≡ ranges_ok (says l a b)
unfolding ranges_ok
ranges_any l a b = refl

says_same : (s : List ℕ) (l : TableLayout) → l ≡ table_layout s → table_at s l ≡ decode s
unfolding decode
says_same s l e = ap (table_at s) e

-- what check 11 leaves of A and the delay
module _ (l : TableLayout) (r : Bool) (e : r ≡ ranges_ok (says l [] [])) (g : not r ≡ false) where
  pub few_actions : l.actions ≤ most_actions
  unfolding ranges_ok
  few_actions = leb-true _ _ (both_left _ _ (both_right _ _ (passed e g)))

  pub short_delay : l.delay ≤ most_delay
  unfolding ranges_ok
  short_delay = leb-true _ _ (both_left _ _ (both_right _ _ (both_right _ _ (passed e g))))

-- the chain as the code divides it; six tests with one refusal, the first and the last apart

six : {A : Type 0} (a b c d e f : Bool) (n : ℕ) (rest : Answer A) → check (both a (both b (both c (both d (both e f))))) n rest
    ≡ check a n (check (both b (both c (both d e))) n (check f n rest))
unfolding check both
six false b c d e f n rest = refl
six true false c d e f n rest = refl
six true true false d e f n rest = refl
six true true true false e f n rest = refl
six true true true true e f n rest = check_both e f n rest

shape_chain : (s : List ℕ) → shape_answer s
    ≡ check (contents_ok width table_letters s) 10
    (check (eqb (length (body_of width s 0)) 4) 11 (check (ranges_ok (decode s)) 11 (check (filled_ok (decode s)) 11 (accepted (decode s)))))
unfolding shape_answer numbers_ok ranges_ok filled_ok
shape_chain s =
    ap (check (contents_ok width table_letters s) 10)
    (six _ _ _ _ _ _ 11 _
    ∙ ap (λ a. check (eqb (length (body_of width s 0)) 4) 11 (check (ranges_ok (decode s)) 11 a)) (sym (check_both _ _ 11 (accepted (decode s)))))

module _ (s : List ℕ) (r₁ : Bool) (e₁ : r₁ ≡ contents_ok width table_letters s) where
  pub refuses_10 : not r₁ ≡ true → refused 10 ≡ shape_answer s
  unfolding shape_answer check
  refuses_10 x = rw (failed e₁ x)

  module _ (t₁ : not r₁ ≡ false) (h : List ℕ) (eh : h ≡ body_of width s 0) where
    pub size_wrong : (length h ≡ 4 → ⊥) → refused 11 ≡ shape_answer s
    size_wrong x =
        sym
        (shape_chain s
        ∙ check_passed _ _ _ (passed e₁ t₁)
        ∙ check_failed _ _ _ (ne_eqb _ _ (λ f. x (ap length eh ∙ f))))

    module _ (size : length h ≡ 4) (l : TableLayout) (el : l ≡ table_layout s) (r₂ : Bool) (e₂ : r₂ ≡ ranges_ok (says l [] [])) where
      after_size : shape_answer s ≡ check (ranges_ok (decode s)) 11 (check (filled_ok (decode s)) 11 (accepted (decode s)))
      after_size =
          shape_chain s
          ∙ check_passed _ _ _ (passed e₁ t₁)
          ∙ check_passed _ _ _ (eq-eqb _ _ (ap length (sym eh) ∙ size))

      two : r₂ ≡ ranges_ok (decode s)
      two = e₂ ∙ ranges_any l _ _ ∙ ap ranges_ok (says_same s l el)

      pub refuses_11 : not r₂ ≡ true → refused 11 ≡ shape_answer s
      refuses_11 x = sym (after_size ∙ check_failed _ _ _ (failed two x))

      module _ (t₂ : not r₂ ≡ false) (w t : List ℕ) (ew : w ≡ part_at s l.flags) (et : t ≡ part_at s l.masks) (r₃ : Bool)
          (e₃ : r₃ ≡ filled_ok (says l w t)) where
        three : r₃ ≡ filled_ok (decode s)
        three = e₃ ∙ ap₂ (λ w t. filled_ok (says l w t)) ew et ∙ ap filled_ok (says_same s l el)

        pub refuses_bodies : not r₃ ≡ true → refused 11 ≡ shape_answer s
        refuses_bodies x = sym (after_size ∙ check_passed _ _ _ (passed two t₂) ∙ check_failed _ _ _ (failed three x))

        pub shape_read : (a : Answer TableSheet) → not r₃ ≡ false → a ≡ accepted (table_at s l) → a ≡ shape_answer s
        shape_read a x e =
            e
            ∙ ap accepted (says_same s l el)
            ∙ sym (after_size ∙ check_passed _ _ _ (passed two t₂) ∙ check_passed _ _ _ (passed three x))

pub ruleset shapes = (rules, few_actions, short_delay, refuses_10, size_wrong, refuses_11, refuses_bodies, shape_read)

-- a flagged word

abbrev pub words_of : List ℕ → Table
words_of w = record { flags = w; masks = [] }

-- 12, after the shape

some_any : (w a b : List ℕ) → some_flagged (record { flags = w; masks = a }) ≡ some_flagged (record { flags = w; masks = b })
unfolding some_flagged flagged
some_any w a b = refl

module _ (s : List ℕ) (y : Result TableLayout Refusal) (ey : answer_by (table_at s) y ≡ shape_answer s) where
  module _ (l : TableLayout) (el : y ≡ Ok l) (w : List ℕ) (ew : w ≡ part_at s l.flags) (r : Bool)
      (er : r ≡ some_flagged (record { flags = w; masks = [] })) where
    shape : shape_answer s ≡ accepted (table_at s l)
    shape = by_accepted (table_at s) y (shape_answer s) ey l el

    some : r ≡ some_flagged (table_at s l).table
    some = er ∙ ap (λ b. some_flagged (record { flags = b; masks = [] })) ew ∙ some_any _ _ _

    pub refuses_12 : not r ≡ true → refused 12 ≡ table_answer s
    unfolding table_answer on_accepted check
    refuses_12 x = rw (shape, failed some x)

    pub table_read : not r ≡ false → accepted (table_at s l) ≡ table_answer s
    unfolding table_answer on_accepted check
    table_read x = rw (shape, passed some x)

pub ruleset reads = (rules, refuses_12, table_read)
