-- Round 1, by positions: p is the P body. Assumes nothing.
use Rattle.std.specs.Prelude.{ℕ, zero, suc, ◌+◌, ◌/◌, ◌<◌, ◌≡◌, Bool, true, not, cond, List, length, get_or}
use Rattle.theory.specs.Fold.{both}
use Rattle.theory.specs.Delay.{on_right}
use Rattle.sheet.specs.Kinds.{controller_at, safe_at}
use Rattle.walk.specs.declared.level.Level.{Level}
use Rattle.solver.specs.code.Work.{Work}

-- the nodes of position q fall in round 1
unfoldable pub row_falls : Bool → List ℕ → ℕ → Bool
row_falls odd p q = both (on_right odd (controller_at p) q) (not (safe_at p q))

-- their mask: every action at a safe position of the right side
unfoldable pub row_mask : Bool → List ℕ → ℕ → ℕ → ℕ
row_mask odd p full q = cond (both (on_right odd (controller_at p) q) (safe_at p q)) full 0

-- how many nodes below k do not fall
unfoldable pub stand_below : List ℕ → Level → ℕ → ℕ
stand_below p l zero = 0
stand_below p l (suc k) = stand_below p l k + cond (row_falls l.odd p (k / l.words)) 0 1

-- the nodes below k are placed
pub record Placed (p : List ℕ) (l : Level) (full k : ℕ) (w : Work) : Type 0 where
  pub ranks_size : length w.ranks ≡ l.nodes
  pub masks_size : length w.masks ≡ l.nodes
  pub queue_size : length w.queue ≡ l.nodes
  pub ranks : (j : ℕ) → j < k → get_or w.ranks j 0 ≡ cond (row_falls l.odd p (j / l.words)) 1 0
  pub masks : (j : ℕ) → j < k → get_or w.masks j 0 ≡ row_mask l.odd p full (j / l.words)
  pub node : (i : ℕ) → i < w.tail → get_or w.queue i 0 < k
  pub fallen : (i : ℕ) → i < w.tail → row_falls l.odd p (get_or w.queue i 0 / l.words) ≡ true
  pub every : (j : ℕ) → j < k → row_falls l.odd p (j / l.words) ≡ true → (i : ℕ) × (i < w.tail) × (get_or w.queue i 0 ≡ j)
  pub count : w.tail + stand_below p l k ≡ k
