-- What an accepted table sheet says: its numbers are in their ranges, and its table has the sizes that they ask for. Assumes nothing.
use Prim.Native.Nat.{ℕ, ◌^◌, ◌≤◌, ◌<◌}
use mathlib.Core.Path.{◌≡◌, sym, ◌∙◌, ap, subst}
use mathlib.Core.Bool.{true}
use mathlib.Core.Logic.{⊎_elim}
use mathlib.Core.List.{List}
use native.Mathlib.Omega.{arith}
use lib.ListN.{length, get_or, get_or-eq_default}
use lib.Pow.{pow_pos}
use borrow.Author.Tests.{leb-true, ltb-true, eqb-true}
use Rattle.theory.specs.Answer.{accepted}
use Rattle.theory.specs.Strategy.{initial_length}
use Rattle.theory.proofs.Fold.{both_left, both_right, all_at, below?}
use Rattle.theory.proofs.Answer.{accepted_same, check_accepted, accepted_on}
use Rattle.sheet.specs.Limits.{most_actions, most_delay}
use Rattle.table.specs.TableSheet.{TableSheet, decode, table_nodes, numbers_ok, below_at, bytes_below, bodies_ok, shape_answer, table_answer}

pub record Shaped (x : TableSheet) : Type 0 where
  pub some_action : 1 ≤ x.actions
  pub few_actions : x.actions ≤ most_actions
  pub short_delay : x.delay ≤ most_delay
  pub flags_length : length x.table.flags ≡ x.actions ^ initial_length x.delay
  pub masks_length : length x.table.masks ≡ table_nodes x
  pub flags_small : (v : ℕ) → get_or x.table.flags v 0 < 2
  pub masks_small : (k : ℕ) → get_or x.table.masks k 0 < 2 ^ x.actions

-- past the end there is 0
bytes_small : (bound : ℕ) (b : List ℕ) → 0 < bound → bytes_below bound b ≡ true → (k : ℕ) → get_or b k 0 < bound
unfolding bytes_below below_at
bytes_small bound b some h k =
    ⊎_elim
    (λ (i : k < length b). ltb-true _ _ (all_at _ _ h k i))
    (λ (o : length b ≤ k). rw (get_or-eq_default b 0 o) some)
    (below? k (length b))

module _ (t : List ℕ) (x : TableSheet) where
  pub shape_accepted : shape_answer t ≡ accepted x → (x ≡ decode t) × Shaped x
  unfolding shape_answer numbers_ok bodies_ok
  shape_accepted e =
      let c = check_accepted _ 10 _ e in
      let n = check_accepted _ 11 _ c.1 in
      let m = check_accepted _ 11 _ n.1 in
      let is : x ≡ decode t = sym (accepted_same m.1) in
      let p = both_right _ _ n.0 in
      let q = both_right _ _ p in
      let b = both_right _ _ m.0 in
      let f = both_right _ _ b in (
        is,
        subst Shaped (sym is)
            (record {
              some_action = leb-true 1 (decode t).actions (both_left _ _ p);
              few_actions = leb-true (decode t).actions most_actions (both_left _ _ q);
              short_delay = leb-true (decode t).delay most_delay (both_left _ _ (both_right _ _ q));
              flags_length = eqb-true _ _ (both_left _ _ m.0);
              masks_length = eqb-true _ _ (both_left _ _ b);
              flags_small = bytes_small 2 (decode t).table.flags (omega arith) (both_left _ _ f);
              masks_small = bytes_small (2 ^ (decode t).actions) (decode t).table.masks (pow_pos (decode t).actions) (both_right _ _ f);
            }),
      )

  -- check 12 adds nothing to it
  pub table_accepted : table_answer t ≡ accepted x → (x ≡ decode t) × Shaped x
  unfolding table_answer
  table_accepted e =
      let a = accepted_on (shape_answer t) _ e in
      let z = check_accepted _ 12 _ a.2 in
      shape_accepted (a.1 ∙ ap accepted (accepted_same z.1))
