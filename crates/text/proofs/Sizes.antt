-- How long the listing's texts are at document 01's sizes: at most 256 positions, 8 actions, 6 moves of delay, 16,384 nodes and
-- 512 initial words. Assumes nothing.
use Prim.Native.Nat.{ℕ, ◌+◌, ◌*◌, ◌^◌, ◌≤◌, ◌<◌}
use mathlib.Core.List.{List}
use native.Mathlib.Omega.{arith}
use native.Mathlib.Nat.{le_trans, mul-le-mul_right, mul-le-mul}
use lib.ListN.{length, get_or}
use Rattle.text.specs.Lines.{refused_line, losing_line, head_line, start_lines, allow_lines, rank_lines}
use Rattle.text.proofs.Lines.{length_refused, length_losing, length_head, length_starts, length_allows, length_ranks}

pub refused_size : (n : ℕ) → n < 100 → length (refused_line n) ≤ 11
refused_size n h = length_refused n 1 h

pub losing_size : (m : ℕ) → m < 10 → length (losing_line m) ≤ 9
losing_size m h = length_losing m 0 h

pub head_size : (d p a n : ℕ) → d < 10 → p ≤ 256 → a < 10 → n ≤ 256 → length (head_line d p a n) ≤ 43
head_size d p a n f g h e = length_head d p a n 0 2 0 2 f (omega arith) h (omega arith)

pub starts_size : (a l : ℕ) (flags : List ℕ) → l ≤ 3 → length flags ≤ 512 → length (start_lines a l flags) ≤ 5120
starts_size a l flags h g =
    let x : length (start_lines a l flags) ≤ length flags * 10 = length_starts a l flags 3 (omega arith) h in
    omega arith

module _ (a l : ℕ) (xs : List ℕ) (some : 0 < a) (short : l ≤ 3) (positions : length xs ≤ 256 * a ^ l) (nodes : length xs ≤ 16384) where
  within : length xs ≤ 10 ^ 3 * a ^ l
  within = le_trans positions (mul-le-mul_right (a ^ l) (omega arith))

  pub allows_size : a ≤ 8 → length (allow_lines a l xs) ≤ 458752
  allows_size h =
      let x : length (allow_lines a l xs) ≤ length xs * (15 + 2 + 3 + a) = length_allows a l xs 2 3 some within (omega arith) short in
      let b : 15 + 2 + 3 + a ≤ 28 = omega arith in
      le_trans x (mul-le-mul nodes b)

  pub ranks_size : ((k : ℕ) → k < length xs → get_or xs k 0 < 65536) → length (rank_lines a l xs) ≤ 393216
  ranks_size h =
      let j : (k : ℕ) → k < length xs → get_or xs k 0 < 10 ^ 5 = λ k g. let b : get_or xs k 0 < 65536 = h k g in omega arith in
      let x : length (rank_lines a l xs) ≤ length xs * 24 = length_ranks a l xs 2 3 some within (omega arith) short 4 j in
      omega arith
