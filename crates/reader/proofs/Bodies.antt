-- The bodies of an accepted sheet fill arrays whose game is the sheet's. Assumes nothing.
use Prim.Native.Nat.{ℕ, zero, suc, ◌+◌, ◌-◌, ◌*◌, ◌/◌, ◌≤◌, ◌<◌}
use mathlib.Core.Path.{◌≡◌, refl, sym, ◌∙◌, ap, fun_ext}
use mathlib.Core.Bool.{true, false}
use mathlib.Core.Logic.{⊎_elim}
use mathlib.Core.List.{List, [], ◌∷◌, ◌++◌, append-nil, Memᴰ}
use native.Mathlib.Omega.{arith}
use lib.Dec.{eqb}
use lib.ListN.{length, get_or}
use borrow.Author.Tests.{ltb-true, ltb-false, eq-eqb, ne_eqb}
use Rattle.theory.specs.Fold.{all_below, tabulate}
use Rattle.theory.specs.Game.{Target, Game}
use Rattle.theory.proofs.Fold.{bool, below?, all_at, first, first_suc, tabulate_zero, tabulate_suc, get_d_tabulate, get_d_tabulate_out}
use Rattle.theory.specs.Answer.{accepted}
use Rattle.sheet.specs.Form.{part_at}
use Rattle.sheet.specs.Bodies.{positions_body, targets_body, moves_body, is_holding, start_of, action_count}
use Rattle.gates.specs.code.Held.{held_grid}
use Rattle.sheet.specs.SheetGame.{moves_in, moves_of, game_by, game_of}
use Rattle.reader.specs.code.Steps.{Checked}
use Rattle.reader.specs.Reading.{read_answer}
use Rattle.reader.specs.code.Laid.{grid_at}
use Rattle.reader.specs.declared.reading.Layout.{Layout}
use Rattle.reader.proofs.Accepted.{ranges, read_is, carries}
use Rattle.reader.proofs.Legality.{legal, target_read, moves_ordered}
use Rattle.sheet.specs.code.Arrays.{line_count, from_below, first_line, firsts_of, to_at, tos_between, view_of, bodies_game, index_entries}
use Rattle.sheet.proofs.MoveLaws.{first_skips}
use Rattle.sheet.specs.Limits.{most_positions, most_moves}

-- the lines of a U body: those of q, where its from never falls, lie between two first lines

abbrev from_at : List ℕ → ℕ → ℕ
from_at u i = get_or u (2 * i) 0

module _ (u : List ℕ) (q : ℕ) where
  moves_none : (i n : ℕ) → ((k : ℕ) → i ≤ k → k < i + n → from_at u k ≡ q → ⊥) → moves_in u q i n ≡ []
  unfolding moves_in
  moves_none i zero f = refl
  moves_none i (suc n) f =
      rw (ne_eqb (from_at u i) q (f i (omega arith) (omega arith)))
      (moves_none (suc i) n (λ k l h. f k (omega arith) (omega arith)))

  moves_all : (i n : ℕ) → ((k : ℕ) → i ≤ k → k < i + n → from_at u k ≡ q) → moves_in u q i n ≡ tabulate (to_at u) i n
  unfolding moves_in to_at
  moves_all i zero f = sym (tabulate_zero _ i)
  moves_all i (suc n) f =
      rw (eq-eqb (from_at u i) q (f i (omega arith) (omega arith)), tabulate_suc (λ j. get_or u (2 * j + 1) 0) i n)
      (ap (λ (l : List ℕ). get_or u (2 * i + 1) 0 ∷ l) (moves_all (suc i) n (λ k l h. f k (omega arith) (omega arith))))

  moves_split : (m i n : ℕ) → moves_in u q i (m + n) ≡ moves_in u q i m ++ moves_in u q (i + m) n
  unfolding moves_in
  moves_split zero i n = let z : 0 + n ≡ n = omega arith in let y : i + 0 ≡ i = omega arith in rw (z, y)
  moves_split (suc m) i n =
      let z : suc m + n ≡ suc (m + n) = omega arith in
      let y : i + suc m ≡ suc i + m = omega arith in
      rw (z, y)
      (⊎_elim
      (λ (t : eqb (from_at u i) q ≡ true). rw t (ap (λ (l : List ℕ). get_or u (2 * i + 1) 0 ∷ l) (moves_split m (suc i) n)))
      (λ (t : eqb (from_at u i) q ≡ false). rw t (moves_split m (suc i) n))
      (bool (eqb (from_at u i) q)))

  -- before the first line of q every from is lower
  before_first : (k : ℕ) → k < first_line u q → from_at u k < q
  unfolding from_below
  before_first k h = ltb-true _ _ (all_at (from_below u q) _ (first_skips u q).passed k h)

  -- the first line itself is not below q
  at_first : first_line u q < line_count u → q ≤ from_at u (first_line u q)
  unfolding first_line from_below
  at_first =
      ⊎_elim
      (λ (e : all_below (from_below u q) (line_count u) ≡ true).
      rw (first_suc (from_below u q) (line_count u), e) (λ h. absurd (omega arith)))
      (λ (e : all_below (from_below u q) (line_count u) ≡ false).
      rw (first_suc (from_below u q) (line_count u), e)
      (λ h. ltb-false _ _ (first (from_below u q) (line_count u) e).fails))
      (bool (all_below (from_below u q) (line_count u)))

module _ (u : List ℕ) (few : length u / 2 ≤ most_moves) (ordered : (k : ℕ) → suc k < line_count u → from_at u k ≤ from_at u (suc k)) where
  rising : (k m : ℕ) → k + m < line_count u → from_at u k ≤ from_at u (k + m)
  rising k zero h = let z : k + 0 ≡ k = omega arith in rw z (omega arith)
  rising k (suc m) h =
      let z : k + suc m ≡ suc (k + m) = omega arith in
      let l = rising k m (omega arith) in
      let n = ordered (k + m) (omega arith) in
      rw z (omega arith)

  from_first : (q k : ℕ) → first_line u q ≤ k → k < line_count u → q ≤ from_at u k
  from_first q k l h =
      let m : first_line u q + (k - first_line u q) ≡ k = omega arith in
      let a = at_first u q (omega arith) in
      let b = rw m at (rising (first_line u q) (k - first_line u q) (omega arith)) in
      omega arith

  first_next : (q : ℕ) → first_line u q ≤ first_line u (suc q)
  first_next q =
      ⊎_elim
      (λ (h : first_line u (suc q) < first_line u q).
      let i = (first_skips u q).inside in
      let a = at_first u (suc q) (omega arith) in
      let b = before_first u q (first_line u (suc q)) h in
      absurd (omega arith))
      (λ (h : first_line u q ≤ first_line u (suc q)). h)
      (below? (first_line u (suc q)) (first_line u q))

  -- so what the index gives is the moves of q, in line order
  pub lines_moves : (q : ℕ) → tos_between u (first_line u q) (first_line u (suc q)) ≡ moves_of u q
  unfolding tos_between moves_of
  lines_moves q = let all : length u / 2 ≡ line_count u = omega arith in sym (ap (moves_in u q 0) all ∙ whole)
    where
      a : ℕ
      a = first_line u q

      b : ℕ
      b = first_line u (suc q)

      none_before_lem : moves_in u q 0 a ≡ []
      none_before_lem = moves_none u q 0 a (λ k l h e. omega (arith, before_first u q k (omega arith)))

      those : moves_in u q a (b - a) ≡ tabulate (to_at u) a (b - a)
      those =
          let n = first_next q in
          let i = (first_skips u (suc q)).inside in
          moves_all u q a (b - a)
          (λ k l h. omega (arith, before_first u (suc q) k (omega arith), from_first q k (omega arith) (omega arith)))

      none_after : moves_in u q b (line_count u - b) ≡ []
      none_after =
          let i = (first_skips u (suc q)).inside in
          moves_none u q b (line_count u - b) (λ k l h e. omega (arith, from_first (suc q) k (omega arith) (omega arith)))

      whole : moves_in u q 0 (line_count u) ≡ tabulate (to_at u) a (b - a)
      whole =
          let n = first_next q in
          let i = (first_skips u (suc q)).inside in
          let x : line_count u ≡ a + ((b - a) + (line_count u - b)) = omega arith in
          let y : a + (b - a) ≡ b = omega arith in
          let z : 0 + a ≡ a = omega arith in
          ap (moves_in u q 0) x
          ∙ moves_split u q a 0 ((b - a) + (line_count u - b))
          ∙ rw (none_before_lem, z)
          (moves_split u q (b - a) a (line_count u - b) ∙ rw (y, none_after, those) (append-nil _))

-- the index has a first line for each position, and past them it gives nothing

index_at : (u : List ℕ) (q : ℕ) → q < index_entries → get_or (firsts_of u) q 0 ≡ first_line u q
unfolding firsts_of
index_at u q h = get_d_tabulate (first_line u) index_entries q 0 h

index_past : (u : List ℕ) (q : ℕ) → index_entries ≤ q → get_or (firsts_of u) q 0 ≡ 0
unfolding firsts_of
index_past u q h = get_d_tabulate_out (first_line u) index_entries q 0 h

nothing : (u : List ℕ) (i : ℕ) → tos_between u i 0 ≡ []
unfolding tos_between
nothing u i = let z : 0 - i ≡ 0 = omega arith in rw z (tabulate_zero (to_at u) i)

no_member : (l : List ℕ) → ((x : ℕ) → Memᴰ x l → ⊥) → [] ≡ l
no_member [] f = refl
no_member (x ∷ xs) f = absurd (f x (Memᴰ.head refl))

module _ (s : List ℕ) (r : Checked s) where
  moves_read : (q : ℕ) → tos_between (moves_body s) (get_or (firsts_of (moves_body s)) q 0) (get_or (firsts_of (moves_body s)) (suc q) 0)
      ≡ moves_of (moves_body s) q
  unfolding game_of
  moves_read q =
      ⊎_elim
      (λ (h : q < most_positions).
      rw (index_at (moves_body s) q (omega arith), index_at (moves_body s) (suc q) (omega arith))
      (lines_moves (moves_body s) (ranges s r).few_moves (λ k l. moves_ordered s r k (omega arith)) q))
      (λ (h : most_positions ≤ q).
      rw (index_past (moves_body s) (suc q) (omega arith))
      (nothing (moves_body s) (get_or (firsts_of (moves_body s)) q 0)
      ∙ no_member (moves_of (moves_body s) q)
      (λ x m. let p = ((legal s r).moves q x m).from_position in let f = (ranges s r).few_positions in omega arith)))
      (below? q most_positions)

  -- the arrays' game is the sheet's
  pub bodies_game_lem : bodies_game (positions_body s) (held_grid (is_holding s) (action_count s) (targets_body s)) (moves_body s) (start_of s) (action_count s)
      ≡ game_of s
  unfolding bodies_game view_of game_of
  bodies_game_lem =
      ap (λ (t : ℕ → ℕ → Target). with t (λ q. tos_between (moves_body s) (get_or (firsts_of (moves_body s)) q 0) (get_or (firsts_of (moves_body s)) (suc q) 0)))
      (fun_ext (λ q. fun_ext (λ x. sym (target_read s r q x))))
      ∙ ap (with (game_of s).target) (fun_ext moves_read)
    where
      with : (ℕ → ℕ → Target) → (ℕ → List ℕ) → Game
      with = game_by (positions_body s) (start_of s) (action_count s)

-- the same by a reading's layout, which is how callers come to the bodies
pub laid_game : (s : List ℕ) (l : Layout) → read_answer s ≡ accepted l
    → bodies_game (part_at s l.positions) (grid_at s l) (part_at s l.moves) l.start l.actions ≡ game_of s
unfolding grid_at
laid_game s l e =
    let x = carries s l e in
    rw (x.positions_part, x.targets_part, x.moves_part, x.start, x.actions, x.holding) (bodies_game_lem s (read_is s l e).0)
