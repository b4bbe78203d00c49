-- What an accepted game sheet says: each check passed, its numbers are in their ranges, and the places that a reading carries are
-- those of the bodies. Assumes nothing.
use Prim.Native.Nat.{ℕ, zero, suc, ◌+◌, ◌-◌, ◌*◌, ◌/◌, ◌%◌, ◌≤◌, ◌<◌}
use mathlib.Core.Path.{◌≡◌, refl, sym, ◌∙◌, ap}
use mathlib.Core.Bool.{Bool, true, false, cond}
use mathlib.Core.List.{List}
use native.Mathlib.Omega.{arith}
use lib.ListN.{length, drop, length-drop}
use lib.Seq.{length-take-le}
use borrow.Author.Tests.{leb-true, eqb-true}
use Rattle.theory.specs.Answer.{refused, accepted}
use Rattle.theory.specs.Delay.{arena, words}
use Rattle.theory.proofs.Fold.{both_left, both_right, all_at}
use Rattle.theory.specs.Reach.{reached}
use Rattle.theory.proofs.Answer.{check_accepted, accepted_same, accepted_on}
use Rattle.sheet.specs.Form.{offset_of, length_of, place_of, entry_ok, contents_ok, placed_at, part_at, body_of}
use Rattle.sheet.specs.Kinds.{controller_at}
use Rattle.reader.specs.Checks.{positions_ok, header_ok, targets_ok, moves_ok, size_ok}
use Rattle.sheet.specs.Size.{nodes_of}
use Rattle.sheet.specs.Bodies.{game_letters, gated_letters, is_gated, letters_of, header_body, positions_body, targets_body, moves_body, is_holding, start_of, action_count, delay_of}
use Rattle.reader.specs.Reading.{layout_of, checked_answer, read_answer}
use Rattle.sheet.specs.SheetGame.{game_of}
use Rattle.reader.specs.code.Steps.{Checked}
use Rattle.sheet.specs.declared.refusal.Refusal.{Refusal}
use Rattle.reader.specs.declared.reading.Layout.{Layout}
use Rattle.std.specs.Prelude.{Result, Ok, Err}
use Rattle.sheet.specs.Refusals.{number_of, answer_of}
use Rattle.sheet.proofs.RefusalLaws.{answer_accepted, answer_refused}
use Rattle.sheet.specs.Limits.{most_positions, most_actions, most_delay, most_moves, most_nodes}

-- the bodies of any sheet whose contents are right lie inside it whole

module _ (w : ℕ) (letters s : List ℕ) (ok : contents_ok w letters s ≡ true) where
  entries : (k : ℕ) → k < length letters → entry_ok w letters s k ≡ true
  unfolding contents_ok
  entries = all_at (entry_ok w letters s) (length letters) (both_left _ _ (both_right _ _ ok))

  pub offset_is : (k : ℕ) → k < length letters → offset_of w s k ≡ place_of w (length letters) s k
  unfolding entry_ok
  offset_is k h = eqb-true _ _ (both_right _ _ (entries k h))

  end_is : place_of w (length letters) s (length letters) ≡ length s
  unfolding contents_ok
  end_is = eqb-true _ _ (both_right _ _ (both_right _ _ ok))

  place_next : (k : ℕ) → place_of w (length letters) s (suc k) ≡ place_of w (length letters) s k + length_of w s k
  unfolding place_of
  place_next k = refl

  place_before : (k m : ℕ) → place_of w (length letters) s k ≤ place_of w (length letters) s (m + k)
  place_before k zero = let same : 0 + k ≡ k = omega arith in rw same (omega arith)
  place_before k (suc m) =
      let next : suc m + k ≡ suc (m + k) = omega arith in
      rw next (omega (arith, place_before k m, place_next (m + k)))

  pub body_inside : (k : ℕ) → k < length letters → offset_of w s k + length_of w s k ≤ length s
  body_inside k h =
      let last : length letters - suc k + suc k ≡ length letters = omega arith in
      omega (arith, offset_is k h, place_next k, end_is, rw last at (place_before (suc k) (length letters - suc k)))

  pub body_length : (k : ℕ) → k < length letters → length (body_of w s k) ≡ length_of w s k
  unfolding body_of part_at placed_at
  body_length k h =
      length-take-le (length_of w s k) (drop (offset_of w s k) s)
      (rw (length-drop (offset_of w s k) s) (omega (arith, body_inside k h)))

-- all checks but 7 passed, or all

module _ (s : List ℕ) (l : Layout) where
  pub checked_is : checked_answer s ≡ accepted l → Checked s × (l ≡ layout_of s)
  unfolding checked_answer
  checked_is e =
      let c₁ = check_accepted _ _ _ e in
      let c₂ = check_accepted _ _ _ c₁.1 in
      let c₃ = check_accepted _ _ _ c₂.1 in
      let c₄ = check_accepted _ _ _ c₃.1 in
      let c₅ = check_accepted _ _ _ c₄.1 in
      let c₂₄ = check_accepted _ _ _ c₅.1 in
      let c₆ = check_accepted _ _ _ c₂₄.1 in (
        record {
          headed = record { contents = c₁.0; positions = c₂.0; header = c₃.0 };
          targets = c₄.0;
          moves = c₅.0;
          gates = c₂₄.0;
          leave = c₆.0;
        },
        sym (accepted_same c₆.1),
      )

  both_parts : read_answer s ≡ accepted l → (checked_answer s ≡ accepted l) × (size_ok (positions_body s) (action_count s) (delay_of s) ≡ true)
  unfolding read_answer
  both_parts e =
      let x = accepted_on (checked_answer s) _ e in
      let c₇ = check_accepted _ _ _ x.2 in
      (x.1 ∙ ap accepted (accepted_same c₇.1), c₇.0)

  pub read_is : read_answer s ≡ accepted l → Checked s × (l ≡ layout_of s)
  read_is e = checked_is (both_parts e).0

  pub few_nodes : read_answer s ≡ accepted l → nodes_of (length (positions_body s)) (action_count s) (delay_of s) ≤ most_nodes
  unfolding size_ok
  few_nodes e = leb-true _ _ (both_parts e).1

-- the numbers of a checked sheet
pub record Ranges (s : List ℕ) : Type 0 where
  pub some_position : 1 ≤ length (positions_body s)
  pub few_positions : length (positions_body s) ≤ most_positions
  pub some_action : 1 ≤ action_count s
  pub few_actions : action_count s ≤ most_actions
  pub short_delay : delay_of s ≤ most_delay
  pub own_start : controller_at (positions_body s) (start_of s) ≡ true
  pub whole_targets : length (targets_body s) ≡ 3 * (length (targets_body s) / 3)
  pub whole_moves : length (moves_body s) ≡ 2 * (length (moves_body s) / 2)
  pub few_moves : length (moves_body s) / 2 ≤ most_moves

module _ (s : List ℕ) (r : Checked s) where
  pub ranges : Ranges s
  unfolding positions_ok header_ok targets_ok moves_ok start_of action_count delay_of
  ranges =
      let p = both_right _ _ r.headed.positions in
      let h = r.headed.header in
      let a = both_right _ _ h in
      let b = both_right _ _ a in
      let d = both_right _ _ b in
      record {
        some_position = leb-true _ _ (both_left _ _ r.headed.positions);
        few_positions = leb-true _ _ (both_left _ _ p);
        some_action = leb-true _ _ (both_left _ _ a);
        few_actions = leb-true _ _ (both_left _ _ b);
        short_delay = leb-true _ _ (both_left _ _ d);
        own_start = both_right _ _ d;
        whole_targets = omega (arith, eqb-true (length (targets_body s) % 3) 0 (both_left _ _ r.targets));
        whole_moves = omega (arith, eqb-true (length (moves_body s) % 2) 0 (both_left _ _ r.moves));
        few_moves = leb-true _ _ (both_left _ _ (both_right _ _ r.moves));
      }

-- what an accepted reading carries
pub record Carries (s : List ℕ) (l : Layout) : Type 0 where
  pub start : l.start ≡ start_of s
  pub actions : l.actions ≡ action_count s
  pub delay : l.delay ≡ delay_of s
  pub header_part : part_at s l.header ≡ header_body s
  pub positions_part : part_at s l.positions ≡ positions_body s
  pub targets_part : part_at s l.targets ≡ targets_body s
  pub moves_part : part_at s l.moves ≡ moves_body s
  pub positions_size : l.positions.size ≡ length (positions_body s)
  pub targets_size : l.targets.size ≡ length (targets_body s)
  pub moves_size : l.moves.size ≡ length (moves_body s)
  pub reached : l.reached ≡ reached (game_of s)
  pub holding : l.holding ≡ is_holding s

-- both kinds of sheet have S, P, C and U
four_letters : (s : List ℕ) → 4 ≤ length (letters_of s)
unfolding letters_of
four_letters s = of_kind (is_gated s)
  where
    of_kind : (b : Bool) → 4 ≤ length (cond b gated_letters game_letters)
    of_kind true = omega arith
    of_kind false = omega arith

carries_own : (s : List ℕ) → contents_ok 2 (letters_of s) s ≡ true → Carries s (layout_of s)
unfolding layout_of body_of placed_at
carries_own s ok =
    let four = four_letters s in
    record {
      start = refl;
      actions = refl;
      delay = refl;
      header_part = refl;
      positions_part = refl;
      targets_part = refl;
      moves_part = refl;
      positions_size = sym (body_length 2 (letters_of s) s ok 1 (omega arith));
      targets_size = sym (body_length 2 (letters_of s) s ok 2 (omega arith));
      moves_size = sym (body_length 2 (letters_of s) s ok 3 (omega arith));
      reached = refl;
      holding = refl;
    }

pub carries_checked : (s : List ℕ) (l : Layout) → checked_answer s ≡ accepted l → Carries s l
carries_checked s l e = let r = checked_is s l e in rw r.1 (carries_own s r.0.headed.contents)

pub carries : (s : List ℕ) (l : Layout) → read_answer s ≡ accepted l → Carries s l
carries s l e = carries_checked s l (both_parts s l e).0

-- the nodes that check 7 counts are those of the game's arena
pub arena_nodes : (s : List ℕ) (d : ℕ) → (arena (game_of s) d).nodes ≡ nodes_of (length (positions_body s)) (action_count s) d
unfolding arena words game_of nodes_of
arena_nodes s d = refl

-- what a caller learns from the arm that it is in

module _ (s : List ℕ) (r : Result Layout Refusal) (e : answer_of r ≡ read_answer s) where
  pub read_accepted : (l : Layout) → r ≡ Ok l → read_answer s ≡ accepted l
  read_accepted = answer_accepted r (read_answer s) e

  pub read_refused : (x : Refusal) → r ≡ Err x → read_answer s ≡ refused (number_of x)
  read_refused = answer_refused r (read_answer s) e
