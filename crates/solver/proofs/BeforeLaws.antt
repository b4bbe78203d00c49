-- The nodes before a node (specs/Sweep.antt, nodes_before) are those of which it is an outcome. Assumes nothing.
use Prim.Native.Nat.{ℕ, ◌+◌, ◌*◌, ◌/◌, ◌%◌, ◌<◌}
use mathlib.Core.Path.{◌≡◌, refl, sym, ◌∙◌, ap}
use mathlib.Core.Bool.{Bool, true, false}
use mathlib.Core.Logic.{⊎_elim}
use mathlib.Core.List.{List, [], ◌∷◌, ◌++◌, map, Memᴰ}
use native.Mathlib.Omega.{arith}
use native.Mathlib.Nat.{mod-lt, div-add-mod', div-lt_iff_lt-mul, mul_comm, mul_assoc, add-mul}
use lib.Arith.{digits_lt, digits_div, digits_mod}
use lib.ListN.{get_or}
use Rattle.theory.specs.Game.{Target, absent, to, Game, Legal}
use Rattle.theory.specs.Rounds.{bad, spoilt_by}
use Rattle.theory.specs.Delay.{with_word, moved_to, played_to, outcomes, step, arena_by}
use Rattle.theory.proofs.Fold.{bool, any_of_holds}
use Rattle.theory.proofs.Turns.{to_injective, absent_not_to, played_move}
use Rattle.solver.specs.code.Spread.{Spot}
use Rattle.solver.specs.code.Chains.{chain, head_of}
use Rattle.solver.specs.code.Spread.{caller_at, word_at, callers, source_at, sources, gather, even_nodes, odd_nodes}
use Rattle.solver.specs.code.Sweep.{Index, nodes_before, Reverses}

-- members of what is gathered

gathered : (f : ℕ → List ℕ) {i : ℕ} (xs : List ℕ) {k : ℕ} → Memᴰ i xs → Memᴰ k (f i) → Memᴰ k (gather f xs)
unfolding gather
gathered f [] m n = absurd (mathlib.Core.List.Memᴰ.not-nil m)
gathered f {i} (x ∷ xs) {k} m n =
    ⊎_elim
    (λ (e : i ≡ x). mathlib.Core.List.Memᴰ.append_left (gather f xs) (rw e at n))
    (λ (t : Memᴰ i xs). mathlib.Core.List.Memᴰ.append_right (f x) (gathered f xs t n))
    (mathlib.Core.List.Memᴰ.cases_cons m)

gathered_from : (f : ℕ → List ℕ) (xs : List ℕ) {k : ℕ} → Memᴰ k (gather f xs) → (i : ℕ) × Memᴰ i xs × Memᴰ k (f i)
unfolding gather
gathered_from f [] m = absurd (mathlib.Core.List.Memᴰ.not-nil m)
gathered_from f (x ∷ xs) {k} m =
    ⊎_elim
    (λ (n : Memᴰ k (f x)). (x, mathlib.Core.List.Memᴰ.head refl, n))
    (λ (n : Memᴰ k (gather f xs)). let r = gathered_from f xs n in (r.0, later r.1, r.2))
    (mathlib.Core.List.Memᴰ.append_cases (f x) m)
  where
    later : {i : ℕ} → Memᴰ i xs → Memᴰ i (x ∷ xs)
    later t = mathlib.Core.List.Memᴰ.append_right (x ∷ []) t

-- outcomes of the two kinds of step

bad_to : (fallen : ℕ → Bool) (j : ℕ) → fallen j ≡ true → bad fallen (to j) ≡ true
unfolding bad
bad_to fallen j e = e

pub bad_absent : (fallen : ℕ → Bool) → bad fallen absent ≡ true
unfolding bad
bad_absent fallen = refl

module _ (G : Game) (m v : ℕ) where
  pub played_unsafe : (t : ℕ) → G.safe t ≡ false → Memᴰ absent (played_to G m v (to t))
  unfolding played_to
  played_unsafe t s = rw s (mathlib.Core.List.Memᴰ.head refl)

  played_comes : (o : Target) (j : ℕ) → Memᴰ (to j) (played_to G m v o)
      → (t : ℕ) × (r : ℕ) × (o ≡ to t) × Memᴰ r (G.moves t) × (j ≡ r * m + v)
  unfolding played_to
  played_comes absent j i = absurd (absent_not_to (sym (mathlib.Core.List.Memᴰ.eq_of_singleton i)))
  played_comes (to t) j i =
      ⊎_elim
      (λ (s : G.safe t ≡ true).
      let x = mathlib.Core.List.Memᴰ.of_map (λ r. to (r * m + v)) (G.moves t) (rw s at i) in
      (t, x.0, refl, x.1, sym (to_injective x.2)))
      (λ (s : G.safe t ≡ false). absurd (absent_not_to (sym (mathlib.Core.List.Memᴰ.eq_of_singleton (rw s at i)))))
      (bool (G.safe t))

module _ (G : Game) (m h v r : ℕ) where
  moved_bad : (t : ℕ) (fallen : ℕ → Bool) → G.target r h ≡ to t → fallen (t * m + v) ≡ true → bad fallen (moved_to G m h v r) ≡ true
  unfolding moved_to with_word bad
  moved_bad t fallen e f =
      ⊎_elim (λ (s : G.safe r ≡ true). rw (s, e) f) (λ (s : G.safe r ≡ false). rw s) (bool (G.safe r))

  with_comes : (o : Target) (j : ℕ) → with_word m v o ≡ to j → (t : ℕ) × (o ≡ to t) × (j ≡ t * m + v)
  unfolding with_word
  with_comes absent j e = absurd (absent_not_to e)
  with_comes (to t) j e = (t, refl, sym (to_injective e))

  moved_comes : (j : ℕ) → moved_to G m h v r ≡ to j → (t : ℕ) × (G.target r h ≡ to t) × (j ≡ t * m + v)
  unfolding moved_to
  moved_comes j e =
      ⊎_elim
      (λ (s : G.safe r ≡ true). with_comes (G.target r h) j (rw s at e))
      (λ (s : G.safe r ≡ false). absurd (absent_not_to (rw s at e)))
      (bool (G.safe r))

-- a word of A actions is its oldest and the younger ones
module _ (A younger m : ℕ) (some : 0 < A) (someY : 0 < younger) (whole : m ≡ younger * A) where
  pub word_below : (h y : ℕ) → h < A → y < younger → h * younger + y < m
  word_below h y a b = let q = whole ∙ mul_comm younger A in rw q (digits_lt a b)

  pub rest_below : (y c : ℕ) → y < younger → c < A → y * A + c < m
  rest_below y c a b = rw whole (digits_lt a b)

  pub oldest_below : (w : ℕ) → w < m → w / younger < A
  oldest_below w h = (div-lt_iff_lt-mul someY).1 (let q = whole ∙ mul_comm younger A in rw q at h)

  pub some_words : 0 < m
  some_words = let l = rest_below 0 0 someY some in omega arith

  -- a node is its position, oldest action and younger actions
  pub node_parts : (k : ℕ) → k ≡ (k / m) * m + ((k % m) / younger * younger + (k % m) % younger)
  node_parts k = let a = div-add-mod' k m in let b = div-add-mod' (k % m) younger in omega arith

module _ (G : Game) (m younger : ℕ) (some : 0 < G.actions) (someY : 0 < younger) (whole : m ≡ younger * G.actions) where
  abbrev A : ℕ
  A = G.actions

  joined : (h y c : ℕ) → (h * younger + y) * A + c ≡ h * m + (y * A + c)
  joined h y c = rw whole (omega (arith, add-mul (h * younger) y A, mul_assoc h younger A))

  -- the step at a node by its parts
  pub step_at : (odd : Bool) (q h y c : ℕ) → h < A → y < younger
      → step odd G m (q * m + (h * younger + y)) c ≡ outcomes odd G m q (h * m + (y * A + c))
  unfolding step
  step_at odd q h y c a b =
      let i = word_below A younger m some someY whole h y a b in
      ap (λ (x : ℕ). outcomes odd G m x (((q * m + (h * younger + y)) % m) * A + c)) (digits_div q i)
      ∙ ap (λ (x : ℕ). outcomes odd G m q (x * A + c)) (digits_mod q i)
      ∙ ap (λ (x : ℕ). outcomes odd G m q x) (joined h y c)

  even_at : (q h v : ℕ) → v < m → outcomes false G m q (h * m + v) ≡ played_to G m v (G.target q h)
  unfolding outcomes
  even_at q h v l = rw (digits_div h l, digits_mod h l)

  odd_at : (q h v : ℕ) → v < m → outcomes true G m q (h * m + v) ≡ map (moved_to G m h v) (G.moves q)
  unfolding outcomes
  odd_at q h v l = rw (digits_div h l, digits_mod h l)

  -- what such a node's action leads to, by parity
  module _ (q h y c : ℕ) (a : h < A) (b : y < younger) (l : c < A) where
    abbrev v : ℕ
    v = y * A + c

    v_below : v < m
    v_below = rest_below A younger m some someY whole y c b l

    even_step : step false G m (q * m + (h * younger + y)) c ≡ played_to G m v (G.target q h)
    even_step = step_at false q h y c a b ∙ even_at q h v v_below

    odd_step : step true G m (q * m + (h * younger + y)) c ≡ map (moved_to G m h v) (G.moves q)
    odd_step = step_at true q h y c a b ∙ odd_at q h v v_below

    module _ (fallen : ℕ → Bool) where
      -- an outcome that has fallen spoils it
      even_spoils : (t r : ℕ) → G.target q h ≡ to t → Memᴰ r (G.moves t) → fallen (r * m + v) ≡ true
          → spoilt_by (arena_by false G m) fallen (q * m + (h * younger + y)) c ≡ true
      unfolding spoilt_by
      even_spoils t r e i f =
          rw (even_step, e)
          (⊎_elim
          (λ (s : G.safe t ≡ true). any_of_holds (bad fallen) (played_move G m v t r s i) (reached s))
          (λ (s : G.safe t ≡ false). any_of_holds (bad fallen) (unsafe s) blocked)
          (bool (G.safe t)))
        where
          reached : G.safe t ≡ true → bad fallen (to (r * m + v)) ≡ true
          reached s = bad_to fallen (r * m + v) f

          blocked : bad fallen absent ≡ true
          blocked = bad_absent fallen

          unsafe : G.safe t ≡ false → Memᴰ absent (played_to G m v (to t))
          unsafe s = played_unsafe G m v t s

      odd_spoils : (r t : ℕ) → Memᴰ r (G.moves q) → G.target r h ≡ to t → fallen (t * m + v) ≡ true
          → spoilt_by (arena_by true G m) fallen (q * m + (h * younger + y)) c ≡ true
      unfolding spoilt_by
      odd_spoils r t i e f = rw odd_step (any_of_holds (bad fallen) (mathlib.Core.List.Memᴰ.map (moved_to G m h v) i) (moved_bad G m h v r t fallen e f))

    -- and every outcome comes so
    even_comes : (j : ℕ) → Memᴰ (to j) (step false G m (q * m + (h * younger + y)) c)
        → (t : ℕ) × (r : ℕ) × (G.target q h ≡ to t) × Memᴰ r (G.moves t) × (j ≡ r * m + v)
    even_comes j i = played_comes G m v (G.target q h) j (rw even_step at i)

    odd_comes : (j : ℕ) → Memᴰ (to j) (step true G m (q * m + (h * younger + y)) c)
        → (r : ℕ) × (t : ℕ) × Memᴰ r (G.moves q) × (G.target r h ≡ to t) × (j ≡ t * m + v)
    odd_comes j i =
        let x = mathlib.Core.List.Memᴰ.of_map (moved_to G m h v) (G.moves q) (rw odd_step at i) in
        let z = moved_comes G m h v x.0 j x.2 in
        (x.0, z.0, x.1, z.1, z.2)

  -- the chains of the game give the nodes before node j
  module _ (legal : Legal G) (x : Index) (rev : Reverses G x) (n j : ℕ) where
    abbrev last : ℕ
    last = (j % m) % A

    abbrev rest : ℕ
    rest = (j % m) / A

    abbrev spot : Spot
    spot = record { n = n; words = m; younger = younger; actions = A; word = j % m; rest = rest; action = last }

    pub last_below_lem : last < A
    last_below_lem = mod-lt (j % m) some

    rest_less : rest < younger
    rest_less =
        let h = mod-lt j (some_words A younger m some someY whole) in
        let l : j % m < younger * A = omega arith in
        (div-lt_iff_lt-mul some).1 l

    whole_node : (j / m) * m + (rest * A + last) ≡ j
    whole_node = let a = div-add-mod' j m in let b = div-add-mod' (j % m) A in omega arith

    -- each of them is spoilt by it
    module _ (fallen : ℕ → Bool) (f : fallen j ≡ true) (inside : j / m < G.positions) where
      again : fallen ((j / m) * m + (rest * A + last)) ≡ true
      again = rw whole_node f

      pub even_sound : (k : ℕ) → Memᴰ k (nodes_before false x spot (j / m)) → spoilt_by (arena_by false G m) fallen k last ≡ true
      unfolding nodes_before even_nodes callers caller_at
      even_sound k i =
          let a = gathered_from _ (chain x.lines (head_of x.reaching (j / m))) i in
          let t = get_or x.moves (2 * a.0) 0 in
          let b = mathlib.Core.List.Memᴰ.of_map (caller_at spot) (chain x.cells (head_of x.leading t)) a.2 in
          let o = rev.move t (j / m) a.0 a.1 refl inside in
          let e = rev.target t b.0 b.1 (legal.moves t (j / m) o).from_position in
          let g = legal.targets _ _ t e in
          let q : (b.0 / 8) * m + ((b.0 % 8) * younger + rest) ≡ k = (let z = b.2 in omega arith) in
          rw q at (even_spoils (b.0 / 8) (b.0 % 8) rest last g.action rest_less last_below_lem fallen t (j / m) e o again)

      pub odd_sound : (k : ℕ) → Memᴰ k (nodes_before true x spot (j / m)) → spoilt_by (arena_by true G m) fallen k last ≡ true
      unfolding nodes_before odd_nodes sources source_at word_at
      odd_sound k i =
          let a = gathered_from _ (chain x.cells (head_of x.leading (j / m))) i in
          let b = mathlib.Core.List.Memᴰ.of_map (source_at x.moves spot (word_at spot a.0)) (chain x.lines (head_of x.reaching (a.0 / 8))) a.2 in
          let e = rev.target (j / m) a.0 a.1 inside in
          let g = legal.targets _ _ (j / m) e in
          let p = get_or x.moves (2 * b.0) 0 in
          let o = rev.move p (a.0 / 8) b.0 b.1 refl g.from_position in
          let q : p * m + ((a.0 % 8) * younger + rest) ≡ k = b.2 in
          rw q at (odd_spoils p (a.0 % 8) rest last g.action rest_less last_below_lem fallen (a.0 / 8) (j / m) o e again)

    -- and every node with the outcome j is among them, by that action
    module _ (k c : ℕ) (a : c < A) where
      abbrev place : ℕ
      place = k / m

      abbrev oldest : ℕ
      oldest = (k % m) / younger

      abbrev young : ℕ
      young = (k % m) % younger

      old_below : oldest < A
      old_below = oldest_below A younger m some someY whole (k % m) (mod-lt k (some_words A younger m some someY whole))

      young_below : young < younger
      young_below = mod-lt (k % m) someY

      parts : k ≡ place * m + (oldest * younger + young)
      parts = node_parts A younger m some someY whole k

      small : young * A + c < m
      small = rest_below A younger m some someY whole young c young_below a

      -- what j's number says
      module _ (r : ℕ) (e : j ≡ r * m + (young * A + c)) where
        at_position : j / m ≡ r
        at_position = ap (λ (y : ℕ). y / m) e ∙ digits_div r small

        at_word : j % m ≡ young * A + c
        at_word = ap (λ (y : ℕ). y % m) e ∙ digits_mod r small

        at_action : last ≡ c
        at_action = ap (λ (y : ℕ). y % A) at_word ∙ digits_mod young a

        at_rest : rest ≡ young
        at_rest = ap (λ (y : ℕ). y / A) at_word ∙ digits_div young a

      pub even_cover : Memᴰ (to j) (step false G m k c) → (c ≡ last) × Memᴰ k (nodes_before false x spot (j / m))
      unfolding nodes_before even_nodes callers caller_at
      even_cover i =
          let z = even_comes place oldest young c old_below young_below a j (rw parts at i) in
          let t = z.0 in
          let r = z.1 in
          let line = rev.line t r z.3 in
          let cell = rev.cell place oldest t z.2 in
          let p = at_position r z.4 in
          let d = at_rest r z.4 in
          let same : k ≡ (cell.0 / 8) * m + (cell.0 % 8) * younger + rest =
          parts ∙ rw (cell.2, cell.3, d) (let y : place * m + (oldest * younger + young) ≡ place * m + oldest * younger + young = omega arith in y) in
          let here : Memᴰ k (map (caller_at spot) (chain x.cells (head_of x.leading t))) = mathlib.Core.List.Memᴰ.cast same (mathlib.Core.List.Memᴰ.map (caller_at spot) cell.1) in (
            sym (at_action r z.4),
            rw p (gathered _ (chain x.lines (head_of x.reaching r)) line.1 (rw line.2 here)),
          )

      pub odd_cover : Memᴰ (to j) (step true G m k c) → (c ≡ last) × Memᴰ k (nodes_before true x spot (j / m))
      unfolding nodes_before odd_nodes sources source_at word_at
      odd_cover i =
          let z = odd_comes place oldest young c old_below young_below a j (rw parts at i) in
          let r = z.0 in
          let t = z.1 in
          let line = rev.line place r z.2 in
          let cell = rev.cell r oldest t z.3 in
          let p = at_position t z.4 in
          let d = at_rest t z.4 in
          let same : k ≡ source_at x.moves spot (word_at spot cell.0) line.0 = parts ∙ rw (line.2, cell.3, d) in
          let here : Memᴰ k (map (source_at x.moves spot (word_at spot cell.0)) (chain x.lines (head_of x.reaching r))) =
          mathlib.Core.List.Memᴰ.cast same (mathlib.Core.List.Memᴰ.map (source_at x.moves spot (word_at spot cell.0)) line.1) in (
            sym (at_action t z.4),
            rw p (gathered _ (chain x.cells (head_of x.leading t)) cell.1 (rw cell.2 here)),
          )
