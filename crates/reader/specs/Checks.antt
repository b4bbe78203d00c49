-- What each of the checks 2 to 7 of a game sheet asks ("Reading a yard sheet"), and W-207's. h, p, c and u are the S, P, C and U
-- bodies. Assumes nothing.
use Rattle.std.specs.Prelude.{ℕ, ◌+◌, ◌-◌, ◌*◌, ◌/◌, ◌%◌, Bool, not, cond, List, eqb, leb, ltb, length, get_or}
use Rattle.theory.specs.Fold.{both, either, all_below, any_below}
use Rattle.sheet.specs.Limits.{most_positions, most_actions, most_delay, most_moves, most_nodes}
use Rattle.sheet.specs.Bodies.{is_gated, gates_body}
use Rattle.sheet.specs.Kinds.{known_at, controller_at, environment_at}
use Rattle.sheet.specs.Size.{nodes_of}

-- 2: "positions not 1 to 256, or a P byte over 3"
unfoldable pub positions_ok : List ℕ → Bool
positions_ok p = both (leb 1 (length p)) (both (leb (length p) most_positions) (all_below (known_at p) (length p)))

-- 3: "S not 3 bytes, A not 1 to 8, lag over 6, start absent or not own"
unfoldable pub header_ok : List ℕ → List ℕ → Bool
header_ok p h =
    both (eqb (length h) 3)
    (both (leb 1 (get_or h 1 0))
    (both (leb (get_or h 1 0) most_actions) (both (leb (get_or h 2 0) most_delay) (controller_at p (get_or h 0 0)))))

-- the first two bytes of the line at i as one number: "by from, then command"
unfoldable pub key_at : List ℕ → ℕ → ℕ
key_at b i = get_or b i 0 * 256 + get_or b (i + 1) 0

-- "strictly rising": line k, of w bytes, has a larger key than the line before it
unfoldable pub rises_at : ℕ → List ℕ → ℕ → Bool
rises_at w b k = either (eqb k 0) (ltb (key_at b (w * (k - 1))) (key_at b (w * k)))

-- line k of the C body: "from, command, to"
unfoldable pub target_ok : List ℕ → ℕ → List ℕ → ℕ → Bool
target_ok p a c k =
    both (controller_at p (get_or c (3 * k) 0))
    (both (ltb (get_or c (3 * k + 1) 0) a) (both (environment_at p (get_or c (3 * k + 2) 0)) (rises_at 3 c k)))

-- 4: "C not in threes, not rising, from not own, command not below A, or to not yard"
unfoldable pub targets_ok : List ℕ → ℕ → List ℕ → Bool
targets_ok p a c = both (eqb (length c % 3) 0) (all_below (target_ok p a c) (length c / 3))

-- line k of the U body: "from, to"
unfoldable pub move_ok : List ℕ → List ℕ → ℕ → Bool
move_ok p u k =
    both (environment_at p (get_or u (2 * k) 0)) (both (controller_at p (get_or u (2 * k + 1) 0)) (rises_at 2 u k))

-- 5: "U not in twos, over 4,096 moves, not rising, from not yard or to not own"
unfoldable pub moves_ok : List ℕ → List ℕ → Bool
moves_ok p u =
    both (eqb (length u % 2) 0) (both (leb (length u / 2) most_moves) (all_below (move_ok p u) (length u / 2)))

-- 24: "a G body that isn't one byte of 0 or 1"
unfoldable pub gates_ok : List ℕ → Bool
gates_ok s = either (not (is_gated s)) (both (eqb (length (gates_body s)) 1) (leb (get_or (gates_body s) 0 0) 1))

-- line k, of w bytes, begins with q
unfoldable pub begins_at : ℕ → List ℕ → ℕ → ℕ → Bool
begins_at w b q k = eqb (get_or b (w * k) 0) q

-- one of the first n lines, of w bytes, begins with q
unfoldable pub has_line : ℕ → List ℕ → ℕ → ℕ → Bool
has_line w b n q = any_below (begins_at w b q) n

-- a position's own kind of line leads on from it
unfoldable pub leaves_at : List ℕ → List ℕ → List ℕ → ℕ → Bool
leaves_at p c u q = cond (controller_at p q) (has_line 3 c (length c / 3) q) (has_line 2 u (length u / 2) q)

-- 6: "a position without a move"
unfoldable pub all_leave : List ℕ → List ℕ → List ℕ → Bool
all_leave p c u = all_below (leaves_at p c u) (length p)

-- 7: "positions × A^L over 16,384"
unfoldable pub size_ok : List ℕ → ℕ → ℕ → Bool
size_ok p actions delay = leb (nodes_of (length p) actions delay) most_nodes
