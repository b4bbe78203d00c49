-- Filling both buffers, and solving, as the code of src/solve.rt finds them. Assumes nothing.
use Prim.Native.Nat.{ℕ, min, ◌≤◌, ◌<◌}
use mathlib.Core.Path.{◌≡◌, refl, sym, ◌∙◌, ap}
use mathlib.Core.Bool.{Bool, true, false}
use mathlib.Core.List.{List, ◌++◌}
use native.Mathlib.Omega.{arith}
use native.Mathlib.Nat.{le_refl}
use lib.Dec.{leb}
use lib.ListN.{length, take, drop, length-append, length-drop}
use lib.Seq.{take_at, length-take-le}
use borrow.Author.Rules.{rules}
use borrow.Author.Tests.{le-leb, lt-leb}
use Rattle.theory.specs.Fold.{both}
use Rattle.theory.specs.Answer.{Answer, refused, accepted, on_accepted}
use Rattle.theory.specs.Game.{Game, Legal}
use Rattle.theory.specs.Rounds.{Arena, masks, masks_by, final_ranks}
use Rattle.theory.specs.Delay.{Verdict, wins, losing, arena, answer}
use Rattle.theory.proofs.Fold.{below?, both_true, both_false, both_none}
use Rattle.theory.proofs.Answer.{check_passed, check_failed}
use Rattle.theory.proofs.Rounds.{final_length}
use Rattle.theory.proofs.Region.{length_masks}
use Rattle.theory.proofs.Monotone.{answer_least}
use Rattle.sheet.specs.Form.{part_at}
use Rattle.sheet.specs.Size.{nodes_of}
use Rattle.std.proofs.Common.{Result, Ok, Err}
use Rattle.sheet.specs.Refusals.{number_of, answer_of}
use Rattle.sheet.specs.Bodies.{delay_of}
use Rattle.reader.specs.Reading.{read_answer}
use Rattle.sheet.specs.SheetGame.{game_of}
use Rattle.sheet.specs.code.Arrays.{view_of}
use Rattle.sheet.specs.declared.refusal.Refusal.{Refusal}
use Rattle.reader.specs.code.Laid.{grid_at}
use Rattle.reader.specs.declared.reading.Layout.{Layout}
use Rattle.reader.proofs.Accepted.{read_is, read_accepted, carries, arena_nodes}
use Rattle.reader.proofs.Legality.{legal_game}
use Rattle.region.specs.declared.arrays.GameArrays.{GameArrays}
use Rattle.walk.specs.declared.level.Level.{Level}
use Rattle.walk.specs.code.Levels.{arena_of}
use Rattle.walk.specs.code.Nodes.{Sized}
use Rattle.rounds.specs.code.Falling.{AtMost}
use Rattle.solver.specs.declared.delays.Stop.{Stop}
use Rattle.walk.specs.code.Levels.{Room, level_at, level_to}
use Rattle.region.proofs.ReadLaws.{room_read, view_read, is_level}
use Rattle.solver.specs.Solving.{Solved, solve_answer, solved_delay, masks_left, ranks_left}
use Rattle.solver.specs.code.Search.{verdict_by, Stopped, MasksStopped, Fillable, Filled}
use Rattle.solver.specs.code.Views.{view_in, CanFill}
use Rattle.theory.specs.Buffer.{over}
use Rattle.walk.proofs.LevelLaws.{level_whole, nodes_less, room_less, level_sized, arena_is, nodes_is}
use Rattle.solver.proofs.SheetLaws.{sheet_lines}
use Rattle.solver.proofs.SearchLaws.{arena_same, words_at_lem}

pub length_over : (entries buffer : List ℕ) → length entries ≤ length buffer → length (over entries buffer) ≡ length buffer
unfolding over
length_over entries buffer h =
    rw (length-append entries (drop (length entries) buffer), length-drop (length entries) buffer) (omega arith)

-- the search stops at no more than the asked delay
stop_within : (G : Game) → Legal G → (d : ℕ) (v : Verdict) → answer G d ≡ v → solved_delay d v ≤ d
unfolding solved_delay
stop_within G legal d wins e = le_refl d
stop_within G legal d (losing m) e = (answer_least G legal d m e).asked

-- both buffers, by the arrays: r is where the search stopped, with the ranks in after
module _ (p : List ℕ) (g : List (List ℕ)) (u f : List ℕ) (start actions delay : ℕ) (before-masks before : List ℕ)
    (can : Fillable p g u f start actions delay before-masks before) where
  abbrev G : Game
  G = view_of p g u f start actions

  module _ (after : List ℕ) (r : Stop) (stopped : Stopped G delay before after r) (l : Level) (made : l ≡ level_to (length p) start actions r.delay) where
    within : r.delay ≤ delay
    within = rw stopped.delay (stop_within G can.legal delay (answer G delay) refl)

    pub room_stop : Room (length p) actions r.delay
    room_stop = room_less can.room within

    few : nodes_of (length p) actions r.delay ≤ nodes_of (length p) actions delay
    few = nodes_less can.room within

    ranks_length : length (final_ranks (arena G r.delay)) ≡ nodes_of (length p) actions r.delay
    ranks_length = final_length (arena G r.delay) ∙ nodes_is p g u f start actions r.delay

    pub after_length : length after ≡ length before
    after_length =
        let e = ranks_length in
        let h = can.ranks_room in
        let i = few in
        rw stopped.ranks (length_over (final_ranks (arena G r.delay)) before (omega arith))

    is : l ≡ level_at (length p) start actions r.delay
    is = made ∙ level_whole room_stop start

    level_nodes : l.nodes ≡ nodes_of (length p) actions r.delay
    level_nodes = ap (λ (x : Level). x.nodes) is

    pub sized_stop : {q : List ℕ} → q ≡ p → Sized (length q) l
    sized_stop e = rw (e, is) (level_sized room_stop start)

    pub ranks_room : l.nodes ≤ length after
    ranks_room = let e = level_nodes in let h = can.ranks_room in let i = few in let n = after_length in omega arith

    ranks_front : take l.nodes after ≡ final_ranks (arena G r.delay)
    unfolding over
    ranks_front = rw stopped.ranks (take_at _ _ l.nodes (ranks_length ∙ sym level_nodes))

    pub ranks_count : length (take l.nodes after) ≡ l.nodes
    ranks_count = length-take-le l.nodes after ranks_room

    pub most_stop : AtMost r.rounds (take l.nodes after)
    most_stop = rw ranks_front stopped.rounds

    module _ (after-masks : List ℕ) (left : MasksStopped G r.delay before-masks after-masks) where
      pub masks_room : l.nodes ≤ length after-masks
      masks_room = let e = level_nodes in let h = can.masks_room in let i = few in let n = left.size in omega arith

      pub masks_front : length (take l.nodes after-masks) ≡ l.nodes
      masks_front = length-take-le l.nodes after-masks masks_room

      rest_is : drop l.nodes after-masks ≡ drop l.nodes before-masks
      rest_is =
          let q : l.nodes ≡ (arena G r.delay).nodes = level_nodes ∙ sym (nodes_is p g u f start actions r.delay) in
          ap (λ (x : ℕ). drop x after-masks) q ∙ left.beyond ∙ ap (λ (x : ℕ). drop x before-masks) (sym q)

      -- the arena at that delay
      module _ (E : Arena) (here : E ≡ arena_of p g u f l) where
        masks_made_lem : {m : List ℕ} → m ≡ masks_by E (take l.nodes after) → m ≡ masks (arena G r.delay)
        unfolding masks
        masks_made_lem e =
            e
            ∙ ap (masks_by E) ranks_front
            ∙ ap
            (λ E. masks_by E (final_ranks (arena G r.delay)))
            (here ∙ ap (arena_of p g u f) is ∙ arena_is p g u f start actions r.delay)

        masks_made_length : {m : List ℕ} → m ≡ masks_by E (take l.nodes after) → length m ≡ l.nodes
        masks_made_length e =
            ap length (masks_made_lem e)
            ∙ length_masks (arena G r.delay)
            ∙ nodes_is p g u f start actions r.delay
            ∙ sym level_nodes

        -- the search left them where words are pending
        pub masks_ready : (l.words ≡ 1 → ⊥) → take l.nodes after-masks ≡ masks_by E (take l.nodes after)
        unfolding masks
        masks_ready many =
            ap (λ (x : ℕ). take x after-masks) (level_nodes ∙ sym (nodes_is p g u f start actions r.delay))
            ∙ left.made (λ one. many (ap (λ (x : Level). x.words) is ∙ sym (words_at_lem p g u f start actions r.delay) ∙ one))
            ∙ sym (masks_made_lem refl)

        pub fills : {m : List ℕ} → m ≡ masks_by E (take l.nodes after)
            → Filled G delay before-masks before (m ++ drop l.nodes after-masks) after r
        unfolding over
        fills {m} e =
            record {
              stopped = stopped;
              masks =
                  ap (λ x. m ++ x) rest_is
                  ∙ ap (λ x. m ++ drop x before-masks) (sym (masks_made_length e))
                  ∙ ap (λ (x : List ℕ). x ++ drop (length x) before-masks) (masks_made_lem e);
            }

-- the nodes of that delay are in the buffer
pub ruleset inside = (ranks_room, ranks_count)

pub ruleset filling = (rules, arena_same, sized_stop, ranks_room, ranks_count, masks_room, masks_front, most_stop, masks_ready, fills)

-- solving: a refusal alters nothing
module _ (s : List ℕ) {n : ℕ} {a : Answer Solved} (e : refused n ≡ a) (b : List ℕ) where
  pub masks_kept : b ≡ masks_left s a b
  unfolding masks_left
  masks_kept = rw (← e)

  pub ranks_kept : b ≡ ranks_left s a b
  unfolding ranks_left
  ranks_kept = rw (← e)

-- that of a reading is handed on
pub handed_on : (s : List ℕ) (rd : Result Layout Refusal) → answer_of rd ≡ read_answer s → (x : Refusal) → rd ≡ Err x → (m k : ℕ)
    → refused (number_of x) ≡ solve_answer s m k
unfolding solve_answer on_accepted
handed_on s rd e x a m k = rw (← e, a)

-- the arrays of an accepted sheet, and their level at the asked delay
pub record Taken (s : List ℕ) (l : Layout) (a : GameArrays) (v : Level) : Type 0 where
  pub read : read_answer s ≡ accepted l
  pub layout : a.layout ≡ l
  pub positions : a.positions.now ≡ part_at s l.positions
  pub grid : a.grid ≡ grid_at s l
  pub moves : a.moves.now ≡ part_at s l.moves
  pub level : v ≡ level_to (length a.positions.now) a.layout.start a.layout.actions l.delay

-- the level is worked out from the P body, before the arrays
pub taken : {s p : List ℕ} {rd : Result Layout Refusal} {l : Layout} {a : GameArrays} {v : Level} → answer_of rd ≡ read_answer s → rd ≡ Ok l
    → p ≡ part_at s l.positions → v ≡ level_to (length p) l.start l.actions l.delay
    → a.layout ≡ l → a.positions.now ≡ part_at s l.positions → a.grid ≡ grid_at s l → a.moves.now ≡ part_at s l.moves → Taken s l a v
taken {s} {p} {rd} {l} e o w f a b c d =
    record { read = read_accepted s rd e l o; layout = a; positions = b; grid = c; moves = d; level = rw (a, b, ← w) f }

module _ (s : List ℕ) (l : Layout) (read : read_answer s ≡ accepted l) (p : List ℕ) (body : p ≡ part_at s l.positions) (v : Level)
    (level : v ≡ level_to (length p) l.start l.actions l.delay) where
  nodes_by : v.nodes ≡ nodes_of (length p) l.actions l.delay
  nodes_by = ap (λ (x : Level). x.nodes) (is_level s (Ok l) (sym read) l refl p body v level)

  nodes_read : v.nodes ≡ (arena (game_of s) (delay_of s)).nodes
  nodes_read =
      let c = carries s l read in
      nodes_by ∙ rw (body ∙ c.positions_part, c.actions, c.delay) (sym (arena_nodes s (delay_of s)))

  abbrev owed : ℕ
  owed = (arena (game_of s) (delay_of s)).nodes

  abbrev room_for : ℕ → ℕ → Bool
  room_for m k = both (leb owed m) (leb owed k)

  short : (m k : ℕ) → min m k < v.nodes → room_for m k ≡ false
  short m k h =
      let n = nodes_read in
      grind (arith, below? m owed, both_none (leb owed m) (leb owed k), both_false (leb owed m) (leb owed k), lt-leb owed m, lt-leb owed k)

  pub refuses_short : (m k : ℕ) {room : ℕ} → room ≡ min m k → room < v.nodes → refused 8 ≡ solve_answer s m k
  unfolding solve_answer on_accepted
  refuses_short m k e h = sym (rw read (check_failed _ 8 _ (short m k (omega (arith, e, h)))))

  roomy_both : (m k : ℕ) {room : ℕ} → room ≡ min m k → v.nodes ≤ room → room_for m k ≡ true
  roomy_both m k e h = let n = nodes_read in both_true _ _ (le-leb owed m (omega (arith, e))) (le-leb owed k (omega (arith, e)))

module _ (s : List ℕ) (l : Layout) (a : GameArrays) (v : Level) (t : Taken s l a v) where
  level_taken : v ≡ level_to (length a.positions.now) l.start l.actions l.delay
  level_taken = rw t.layout at t.level

  nodes_made : v.nodes ≡ nodes_of (length a.positions.now) l.actions l.delay
  nodes_made = nodes_by s l t.read a.positions.now t.positions v level_taken

  -- both buffers have room
  module _ (m k : List ℕ) {room : ℕ} (er : room ≡ min (length m) (length k)) (roomy : v.nodes ≤ room) where
    solved : solve_answer s (length m) (length k) ≡ accepted (record { verdict = answer (game_of s) (delay_of s); layout = l })
    unfolding solve_answer on_accepted
    solved = rw t.read (check_passed _ 8 _ (roomy_both s l t.read a.positions.now t.positions v level_taken (length m) (length k) er roomy))

    same_game : view_of a.positions.now a.grid a.moves.now a.firsts l.start l.actions ≡ game_of s
    same_game = view_read s (Ok l) (sym t.read) l refl a.positions.now t.positions a.grid a.moves.now a.firsts t.grid t.moves a.indexed

    pub fillable_read : CanFill a m k
    fillable_read =
        let n = nodes_made in
        rw t.layout
        (record {
          room = room_read s (Ok l) (sym t.read) l refl a.positions.now t.positions;
          masks_room = omega arith;
          ranks_room = omega arith;
          legal = rw same_game (legal_game s l t.read);
          moves = rw (same_game, t.moves ∙ (carries s l t.read).moves_part) (sheet_lines s (read_is s l t.read).0);
        })

    -- after filling
    module _ (m' k' : List ℕ) (r : Stop) (filled : Filled (view_in a) a.layout.delay m k m' k' r) where
      filled_read : Filled (game_of s) (delay_of s) m k m' k' r
      filled_read = rw (t.layout, same_game, (carries s l t.read).delay) at filled

      stop_is : r.delay ≡ solved_delay (delay_of s) (answer (game_of s) (delay_of s))
      stop_is = filled_read.stopped.delay

      masks_filled : m' ≡ masks_left s (solve_answer s (length m) (length k)) m
      unfolding masks_left
      masks_filled = rw (solved, ← stop_is) filled_read.masks

      ranks_filled : k' ≡ ranks_left s (solve_answer s (length m) (length k)) k
      unfolding ranks_left
      ranks_filled = rw (solved, ← stop_is) filled_read.stopped.ranks

      -- the three promises
      abbrev Promised : Verdict → Type 0
      Promised x =
          record {
            answer : accepted (record { verdict = x; layout = l }) ≡ solve_answer s (length m) (length k);
            masks : m' ≡ masks_left s (solve_answer s (length m) (length k)) m;
            ranks : k' ≡ ranks_left s (solve_answer s (length m) (length k)) k;
          }

      solves : Promised (verdict_by r.wins r.delay)
      solves =
          record {
            answer = ap (λ x. accepted (record { verdict = x; layout = l })) filled_read.stopped.verdict ∙ sym solved;
            masks = masks_filled;
            ranks = ranks_filled;
          }

      pub solves_won : r.wins ≡ true → Promised wins
      unfolding verdict_by
      solves_won w = rw w at solves

      pub solves_lost : r.wins ≡ false → Promised (losing r.delay)
      unfolding verdict_by
      solves_lost w = rw w at solves

pub ruleset handing_on = (rules, masks_kept, ranks_kept, handed_on)
