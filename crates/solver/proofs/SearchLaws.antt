-- The search upward (src/delays.rt): what holds at each delay, and where it stops. Assumes nothing.
use Prim.Native.Nat.{ℕ, ◌+◌, ◌-◌, ◌/◌, ◌^◌, ◌≤◌, ◌<◌}
use mathlib.Core.Path.{◌≡◌, refl, sym, ◌∙◌, ap}
use mathlib.Core.Bool.{Bool, true, false}
use mathlib.Core.List.{List, ◌++◌}
use native.Mathlib.Omega.{arith}
use lib.ListN.{length, take, drop, length-append, length-drop}
use lib.Seq.{take_at, drop-append-add, drop-drop, length-take-le}
use borrow.Author.Rules.{rules}
use Rattle.theory.specs.Fold.{any_below}
use Rattle.theory.specs.Game.{Game, Legal}
use Rattle.theory.specs.Rounds.{Arena, final_ranks, masks}
use Rattle.theory.specs.Delay.{wins, losing, words, arena, winning, answer}
use Rattle.theory.proofs.Fold.{below?}
use Rattle.theory.proofs.Rounds.{final_length}
use Rattle.theory.proofs.Monotone.{answer_wins, answer_found}
use Rattle.sheet.specs.Size.{nodes_of}
use Rattle.walk.specs.declared.level.Level.{Level}
use Rattle.walk.specs.code.Levels.{arena_of}
use Rattle.sheet.specs.code.Arrays.{view_of}
use Rattle.rounds.specs.code.Falling.{AtMost}
use Rattle.walk.specs.code.Levels.{Room, level_at, level_to}
use Rattle.region.specs.code.Kept.{good_in, first_words, some_good}
use Rattle.solver.specs.Solving.{solved_delay}
use Rattle.solver.specs.code.Sweep.{Index, Indexed}
use Rattle.solver.specs.code.Working.{Levelable}
use Rattle.solver.proofs.SheetLaws.{levelable}
use Rattle.solver.specs.code.Search.{verdict_by, Stopped, Leveled, MasksStopped, Fillable}
use Rattle.theory.specs.Buffer.{over}
use Rattle.walk.proofs.LevelLaws.{level_whole, nodes_less, room_less, level_sized, arena_is, nodes_is}
use Rattle.region.proofs.GoodLaws.{good_known, winning_is}
use Rattle.sheet.specs.Limits.{most_positions}

-- the arena of the same arrays
pub arena_same : {p q : List ℕ} {g h : List (List ℕ)} {u v f e : List ℕ} (l : Level) → q ≡ p → h ≡ g → v ≡ u → e ≡ f
    → arena_of q h v e l ≡ arena_of p g u f l
arena_same l a b c d = rw (a, b, c, d)

pub words_at_lem : (p : List ℕ) (g : List (List ℕ)) (u f : List ℕ) (start actions d : ℕ) → words (view_of p g u f start actions) d ≡ actions ^ (d / 2)
unfolding words view_of
words_at_lem p g u f start actions d = refl

-- nothing of a buffer beyond so many entries has changed
pub record Beyond (nodes : ℕ) (before after : List ℕ) : Type 0 where
  pub size : length after ≡ length before
  pub rest : drop nodes after ≡ drop nodes before

pub beyond_start : (n : ℕ) (before : List ℕ) → Beyond n before before
beyond_start n before = record { size = refl; rest = refl }

-- every delay below d wins
pub record Searched (G : Game) (delay d : ℕ) : Type 0 where
  pub asked : d ≤ delay
  pub won : (j : ℕ) → j < d → winning G j ≡ true

-- one of the two buffers at delay d, with the numbers of a sheet
module _ (p : List ℕ) (start actions delay : ℕ) (before old : List ℕ) (d : ℕ)
    (same : Beyond (nodes_of (length p) actions d) before old) {l : Level} (made : l ≡ level_to (length p) start actions d)
    (room : Room (length p) actions delay) (asked : d ≤ delay) (enough : nodes_of (length p) actions delay ≤ length before) where
  abbrev owed : ℕ
  owed = nodes_of (length p) actions d

  level_is : l ≡ level_at (length p) start actions d
  level_is = made ∙ level_whole (room_less room asked) start

  level_owed : l.nodes ≡ owed
  level_owed = ap (λ (x : Level). x.nodes) level_is

  pub nodes_inside : l.nodes ≤ length old
  nodes_inside = let n = nodes_less room asked in let e = same.size in let o = level_owed in omega arith

  pub front_length : length (take l.nodes old) ≡ l.nodes
  front_length = length-take-le l.nodes old nodes_inside

  -- after the rounds, which keep the length of what is lent
  module _ (left : List ℕ) (size : length left ≡ length (take l.nodes old)) where
    left_size : length left ≡ owed
    left_size = size ∙ front_length ∙ level_owed

    length_kept : length (left ++ drop l.nodes old) ≡ length before
    length_kept =
        let n = left_size in
        let m = level_owed in
        let e = same.size in
        let i = nodes_inside in
        rw (length-append left (drop l.nodes old), length-drop l.nodes old) (omega arith)

    pub after_inside : l.nodes ≤ length (left ++ drop l.nodes old)
    after_inside = let n = length_kept in let e = same.size in let i = nodes_inside in omega arith

    pub after_front : length (take l.nodes (left ++ drop l.nodes old)) ≡ l.nodes
    after_front = length-take-le l.nodes (left ++ drop l.nodes old) after_inside

    beyond_at : (k : ℕ) → drop (owed + k) (left ++ drop l.nodes old) ≡ drop (owed + k) before
    beyond_at k =
        let z : owed + k ≡ length left + k = let n = left_size in omega arith in
        ap (λ x. drop x (left ++ drop l.nodes old)) z
        ∙ drop-append-add left (drop l.nodes old) k
        ∙ ap (λ x. drop k (drop x old)) level_owed
        ∙ ap (drop k) same.rest
        ∙ drop-drop k owed before

    pub beyond_next : (d ≡ delay → ⊥) → Beyond (nodes_of (length p) actions (d + 1)) before (left ++ drop l.nodes old)
    beyond_next e =
        let a = asked in
        let b : d + 1 ≤ delay = omega arith in
        let c : d ≤ d + 1 = omega arith in
        let m = nodes_less (room_less room b) c in
        let k = nodes_of (length p) actions (d + 1) - owed in
        let q : owed + k ≡ nodes_of (length p) actions (d + 1) = omega arith in
        record { size = length_kept; rest = rw q at (beyond_at k) }

    pub masks_stop : (g : List (List ℕ)) (u f : List ℕ) (E : Arena) → E ≡ arena_of p g u f l → (ranks : List ℕ) (n : ℕ) → Leveled E l ranks left n
        → MasksStopped (view_of p g u f start actions) d before (left ++ drop l.nodes old)
    masks_stop g u f E here ranks n done =
        let q : owed + 0 ≡ (arena (view_of p g u f start actions) d).nodes = (let e = nodes_is p g u f start actions d in omega arith) in
        let z : owed ≡ (arena (view_of p g u f start actions) d).nodes = sym (nodes_is p g u f start actions d) in
        record {
          size = length_kept;
          beyond =
              ap (λ (x : ℕ). drop x (left ++ drop l.nodes old)) (sym q) ∙ beyond_at 0 ∙ ap (λ (x : ℕ). drop x before) q;
          made = λ many.
              ap (λ (x : ℕ). take x (left ++ drop l.nodes old)) (sym z)
              ∙ take_at left (drop l.nodes old) owed left_size
              ∙ done.masks (λ one. many (words_at_lem p g u f start actions d ∙ sym (ap (λ (x : Level). x.words) level_is) ∙ one))
              ∙ ap masks here
              ∙ ap (λ x. masks (arena_of p g u f x)) level_is
              ∙ ap masks (arena_is p g u f start actions d);
        }

-- the search at delay d, with the ranks in old
module _ (p : List ℕ) (g : List (List ℕ)) (u f : List ℕ) (start actions delay : ℕ) (before old : List ℕ) (d : ℕ)
    (room : Room (length p) actions delay) (enough : nodes_of (length p) actions delay ≤ length before)
    (legal : Legal (view_of p g u f start actions))
    (searched : Searched (view_of p g u f start actions) delay d) (kept : Beyond (nodes_of (length p) actions d) before old)
    (l : Level) (made : l ≡ level_to (length p) start actions d) where
  abbrev G : Game
  G = view_of p g u f start actions

  is : l ≡ level_at (length p) start actions d
  is = level_is p start actions delay before old d kept made room searched.asked enough

  start_here : l.start < most_positions
  unfolding view_of
  start_here = let s = legal.start_position in let f = room.few_positions in rw made (omega arith)

  -- the rounds gave these ranks
  module _ (E : Arena) (same : E ≡ arena_of p g u f l) (ranks left : List ℕ) (n : ℕ) (ranked : Leveled E l ranks left n) where
    ranks_here : ranks ≡ final_ranks (arena G d)
    ranks_here = ranked.final ∙ ap final_ranks (same ∙ ap (arena_of p g u f) is ∙ arena_is p g u f start actions d)

    ranks_length : length ranks ≡ l.nodes
    ranks_length = ap length ranks_here ∙ final_length (arena G d) ∙ nodes_is p g u f start actions d ∙ sym (ap (λ (x : Level). x.nodes) is)

    -- the buffer after them
    abbrev after : List ℕ
    after = ranks ++ drop l.nodes old

    after_over : after ≡ over (final_ranks (arena G d)) before
    unfolding over
    after_over =
        ap (λ x. ranks ++ drop x old) (ap (λ (x : Level). x.nodes) is)
        ∙ ap (λ x. ranks ++ x) kept.rest
        ∙ ap (λ x. ranks ++ drop x before) (sym (ranks_length ∙ ap (λ (x : Level). x.nodes) is))
        ∙ ap (λ (x : List ℕ). x ++ drop (length x) before) ranks_here

    front_here : take l.nodes after ≡ ranks
    front_here = take_at ranks (drop l.nodes old) l.nodes ranks_length

    most_here : AtMost n (final_ranks (arena G d))
    most_here = rw (← ranks_here) ranked.most

    module _ {r : Bool} (some : r ≡ some_good p g l (take l.nodes after)) where
      tested : r ≡ winning G d
      tested =
          winning_is p g u f start actions d ranks_here
          (good_known p g l _ (rw is (level_sized (room_less room searched.asked) start)) start_here some
          ∙ ap (λ x. any_below (good_in p g l x) (first_words l)) front_here
          ∙ ap (λ x. any_below (good_in p g x ranks) (first_words x)) is)

      lost_answer : r ≡ false → answer G delay ≡ losing d
      lost_answer x = answer_found G legal delay d searched.asked searched.won (sym tested ∙ x)

      pub stops_lost : r ≡ false → Stopped G delay before after (record { wins = r; delay = d; rounds = n })
      unfolding verdict_by solved_delay
      stops_lost x =
          record {
            verdict = ap (λ w. verdict_by w d) x ∙ sym (lost_answer x);
            delay = sym (ap (solved_delay delay) (lost_answer x));
            ranks = after_over;
            rounds = most_here;
          }

      won_here : r ≡ true → winning G d ≡ true
      won_here x = sym tested ∙ x

      won_answer : r ≡ true → d ≡ delay → answer G delay ≡ wins
      won_answer x e = ap (answer G) (sym e) ∙ answer_wins G legal d (won_here x)

      pub stops_won : r ≡ true → d ≡ delay → Stopped G delay before after (record { wins = r; delay = d; rounds = n })
      unfolding verdict_by solved_delay
      stops_won x e =
          record {
            verdict = ap (λ w. verdict_by w d) x ∙ sym (won_answer x e);
            delay = e ∙ sym (ap (solved_delay delay) (won_answer x e));
            ranks = after_over;
            rounds = most_here;
          }

      -- on to the next delay
      pub searched_next : r ≡ true → (d ≡ delay → ⊥) → Searched G delay (d + 1)
      searched_next x e =
          let a = searched.asked in
          record {
            asked = omega arith;
            won = λ j h. grind (arith, below? j d, searched.won j, won_here x);
          }

-- the level can be solved
pub level_can : (p : List ℕ) (g : List (List ℕ)) (u f : List ℕ) (x : Index) (start actions delay : ℕ) (masks before : List ℕ) (d : ℕ)
    → Fillable p g u f start actions delay masks before → Indexed u g delay x
    → Searched (view_of p g u f start actions) delay d → {l : Level}
    → l ≡ level_to (length p) start actions d → {q v e : List ℕ} {h : List (List ℕ)} → q ≡ p → h ≡ g → v ≡ u → e ≡ f → Levelable q h v e x l
level_can p g u f x start actions delay masks before d can index searched made a b c k =
    let room = room_less can.room searched.asked in
    rw (a, b, c, k)
    (levelable p g u f x start actions delay d room can.legal can.moves index searched.asked
    (made ∙ level_whole room start))

pub searched_start : (G : Game) (delay : ℕ) → Searched G delay 0
searched_start G delay = record { asked = omega arith; won = λ j h. absurd (omega arith) }

-- a delay's nodes are in both buffers, before and after its rounds
pub ruleset inside = (rules, nodes_inside, front_length, after_inside, after_front)

-- what holds at each delay, and where the search stops
pub ruleset upward = (rules, arena_same, searched_next, beyond_next, stops_lost, stops_won, masks_stop)
