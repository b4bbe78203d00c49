-- The lines of an accepted sheet's U body are its game's moves, and the levels of a sheet can be solved. Assumes nothing.
use Prim.Native.Nat.{ℕ, zero, suc, ◌+◌, ◌-◌, ◌*◌, ◌/◌, ◌^◌, ◌≤◌, ◌<◌}
use mathlib.Core.Path.{◌≡◌, sym, ◌∙◌, ap}
use mathlib.Core.Bool.{true, false}
use mathlib.Core.Logic.{⊎_elim}
use mathlib.Core.List.{List, Memᴰ}
use native.Mathlib.Omega.{arith}
use native.Mathlib.Nat.{pow-zero, pow-suc, one-le-pow, div-eq_of_eq-mul_left}
use lib.Dec.{eqb}
use lib.ListN.{length, get_or}
use borrow.Author.Tests.{eq-eqb}
use Rattle.theory.specs.Game.{Legal}
use Rattle.theory.proofs.Fold.{bool, not_both, same?, below?}
use Rattle.sheet.specs.SheetGame.{moves_in, moves_of, game_of}
use Rattle.sheet.specs.Bodies.{moves_body}
use Rattle.sheet.specs.code.Arrays.{view_of, to_at, line_count}
use Rattle.reader.specs.code.Steps.{Checked}
use Rattle.reader.proofs.Accepted.{ranges}
use Rattle.reader.proofs.Legality.{move_of}
use Rattle.walk.specs.declared.level.Level.{Level}
use Rattle.walk.specs.code.Levels.{Room, level_at}
use Rattle.walk.proofs.LevelLaws.{level_sized}
use Rattle.solver.specs.code.Sweep.{Fitted, Index, Indexed}
use Rattle.solver.specs.code.Working.{Lines, Levelable}
use Rattle.solver.proofs.IndexLaws.{index_reverses}

-- a line is among its position's moves
line_in : (u : List ℕ) (i n k : ℕ) → i ≤ k → k < i + n → Memᴰ (get_or u (2 * k + 1) 0) (moves_in u (get_or u (2 * k) 0) i n)
unfolding moves_in
line_in u i zero k l h = absurd (omega arith)
line_in u i (suc n) k l h =
    ⊎_elim
    (λ (e : eqb (get_or u (2 * i) 0) (get_or u (2 * k) 0) ≡ true).
    rw e
    (⊎_elim
    (λ (q : i ≡ k). Memᴰ.head (ap (λ (x : ℕ). get_or u (2 * x + 1) 0) (sym q)))
    (λ q. Memᴰ.tail (line_in u (suc i) n k (omega (arith, q)) (omega arith)))
    (same? i k)))
    (λ (e : eqb (get_or u (2 * i) 0) (get_or u (2 * k) 0) ≡ false).
    rw e
    (⊎_elim
    (λ (q : i ≡ k). absurd (not_both (eq-eqb _ _ (ap (λ (x : ℕ). get_or u (2 * x) 0) q)) e))
    (λ q. line_in u (suc i) n k (omega (arith, q)) (omega arith))
    (same? i k)))
    (bool (eqb (get_or u (2 * i) 0) (get_or u (2 * k) 0)))

pub sheet_lines : (s : List ℕ) → Checked s → Lines (game_of s) (moves_body s)
unfolding game_of moves_of to_at
sheet_lines s r =
    let f = (ranges s r).few_moves in
    record {
      move = λ i h. line_in (moves_body s) 0 (length (moves_body s) / 2) i (omega arith) (omega arith);
      line = λ q t m.
          let z = move_of (moves_body s) q t 0 (length (moves_body s) / 2) m in
          let b = z.1.below in
          (z.0, (let y : z.0 < line_count (moves_body s) = omega arith in y), z.1.from, sym z.1.leads);
    }

-- a delay with more than one word has an oldest action
module _ (positions start actions d : ℕ) (room : Room positions actions d) (many : actions ^ (d / 2) ≡ 1 → ⊥) where
  pub later_delay : 2 ≤ d
  later_delay =
      ⊎_elim
      (λ (h : d < 2). let z : d / 2 ≡ 0 = omega arith in absurd (many (ap (λ (x : ℕ). actions ^ x) z ∙ pow-zero actions)))
      (λ h. h)
      (below? d 2)

  half : d / 2 ≡ suc (d / 2 - 1)
  half = let h = later_delay in omega arith

  parts : actions ^ (d / 2) ≡ actions ^ (d / 2 - 1) * actions
  parts = ap (λ (x : ℕ). actions ^ x) half ∙ pow-suc actions (d / 2 - 1)

  younger_is : actions ^ (d / 2) / actions ≡ actions ^ (d / 2 - 1)
  younger_is = let a = room.some_action in div-eq_of_eq-mul_left (let z : 0 < actions = omega arith in z) parts

  fitted : Fitted (level_at positions start actions d) (actions ^ (d / 2) / actions)
  fitted =
      let a = room.some_action in
      record {
        some_action = omega arith;
        few_actions = room.few_actions;
        some_younger = rw younger_is (one-le-pow (d / 2 - 1) actions (omega arith));
        few_words = (level_sized room start).few_words;
        whole = rw younger_is parts;
      }

-- every level up to the asked delay can be solved
pub levelable : (p : List ℕ) (g : List (List ℕ)) (u f : List ℕ) (x : Index) (start actions delay d : ℕ)
    → Room (length p) actions d → Legal (view_of p g u f start actions) → Lines (view_of p g u f start actions) u
    → Indexed u g delay x → d ≤ delay → {l : Level} → l ≡ level_at (length p) start actions d
    → Levelable p g u f x l
levelable p g u f x start actions delay d room legal all ix h e =
    rw e
    (record {
      sized = level_sized room start;
      work = λ many.
          let t = later_delay (length p) start actions d room many in
          record {
            sized = level_sized room start;
            fits = fitted (length p) start actions d room many;
            legal = legal;
            reverses =
                index_reverses p g u f start actions x ix.body room.few_positions legal all (ix.lines_linked (omega arith))
                (ix.cells_linked (omega arith));
          };
    })
