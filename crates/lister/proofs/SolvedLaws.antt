-- What stands in the lent buffers after solving, and the text that it gives. Assumes nothing.
use Prim.Native.Nat.{ℕ, ◌*◌, ◌/◌, ◌≤◌, ◌<◌}
use mathlib.Core.Path.{◌≡◌, sym, ap, ◌∙◌}
use mathlib.Core.List.{List}
use native.Mathlib.Omega.{arith}
use lib.ListN.{length, take}
use borrow.Author.Rules.{rules}
use Rattle.theory.specs.Answer.{Answer, refused, accepted}
use Rattle.theory.specs.Rounds.{masks, final_ranks}
use Rattle.theory.specs.Delay.{wins, losing, arena, answer}
use Rattle.theory.proofs.Rounds.{final_length}
use Rattle.theory.proofs.Region.{length_masks}
use Rattle.theory.proofs.Monotone.{answer_least}
use Rattle.sheet.specs.Limits.{most_actions, most_words}
use Rattle.sheet.specs.Size.{nodes_of}
use Rattle.sheet.specs.code.Steps.{power_to}
use Rattle.sheet.specs.Bodies.{delay_of}
use Rattle.reader.specs.Reading.{read_answer}
use Rattle.sheet.specs.SheetGame.{game_of}
use Rattle.reader.specs.declared.reading.Layout.{Layout}
use Rattle.reader.proofs.Accepted.{read_is, ranges, carries, arena_nodes}
use Rattle.reader.proofs.Legality.{legal_game}
use Rattle.sheet.proofs.SizeLaws.{nodes_small}
use Rattle.text.specs.Page.{Page, puts}
use Rattle.text.specs.Lines.{refused_line}
use Rattle.solver.specs.Solving.{Solved, solve_answer, solved_delay, masks_left, ranks_left, solved_by}
use Rattle.solver.proofs.Accepted.{solved_is}
use Rattle.theory.specs.Buffer.{over}
use Rattle.std.specs.Prelude.{Result, Ok, Err}
use Rattle.sheet.specs.Refusals.{number_of, answer_by}
use Rattle.sheet.specs.declared.refusal.Refusal.{Refusal}
use Rattle.sheet.proofs.RefusalLaws.{by_accepted, by_refused}
use Rattle.solver.specs.declared.solve.Solution.{Solution}
use Rattle.solver.specs.declared.solve.Solution.TheVariants as solution
use Rattle.lister.specs.Listing.{won_text, lost_text, game_text, solved_text}
use Rattle.lister.specs.code.Parts.{flags_in, won_by, lost_by}
use Rattle.theory.proofs.Buffer.{over_first, over_room}
use Rattle.lister.proofs.Words.{flags_are}

-- an accepted sheet's numbers are small: the positions fit two bytes, and n nodes at a delay of at most the asked one are counted
-- right

pub few_positions : (s : List ℕ) (l : Layout) → read_answer s ≡ accepted l → l.positions.size < 65536
few_positions s l e = omega (arith, (ranges s (read_is s l e).0).few_positions, (carries s l e).positions_size)

counted : (s : List ℕ) (l : Layout) (m n : ℕ) → read_answer s ≡ accepted l → m ≤ delay_of s → n ≡ l.positions.size * power_to l.actions (m / 2)
    → n ≡ nodes_of l.positions.size l.actions m
counted s l m n e h is =
    let r = ranges s (read_is s l e).0 in
    let few : l.actions ≤ most_actions = rw (carries s l e).actions r.few_actions in
    nodes_small l.actions m few (omega (arith, r.short_delay)) l.positions.size n is

pub losing_within : (s : List ℕ) (l : Layout) (m : ℕ) → read_answer s ≡ accepted l → answer (game_of s) (delay_of s) ≡ losing m → m ≤ delay_of s
losing_within s l m e f = (answer_least (game_of s) (legal_game s l e) (delay_of s) m f).asked

-- the game's numbers are those that the reading carries

positions_are : (s : List ℕ) (l : Layout) → read_answer s ≡ accepted l → (game_of s).positions ≡ l.positions.size
unfolding game_of
positions_are s l e = sym (carries s l e).positions_size

actions_are : (s : List ℕ) (l : Layout) → read_answer s ≡ accepted l → (game_of s).actions ≡ l.actions
unfolding game_of
actions_are s l e = sym (carries s l e).actions

-- equal parts give equal texts

won_same : {d d' n n' a a' k k' : ℕ} {fs fs' ms ms' : List ℕ} → d ≡ d' → n ≡ n' → a ≡ a' → k ≡ k' → fs ≡ fs' → ms ≡ ms'
    → won_text d n a k fs ms ≡ won_text d' n' a' k' fs' ms'
won_same e f g h i j = cc

lost_same : {d d' n n' a a' k k' : ℕ} {rs rs' : List ℕ} (m : ℕ) → d ≡ d' → n ≡ n' → a ≡ a' → k ≡ k' → rs ≡ rs'
    → lost_text d n a k m rs ≡ lost_text d' n' a' k' m rs'
lost_same m e f g h i = cc

-- s was read as l, and m is the delay for which the buffers are filled
module _ (s : List ℕ) (l : Layout) (m : ℕ) (read : read_answer s ≡ accepted l) where
  nodes : (arena (game_of s) m).nodes ≡ nodes_of l.positions.size l.actions m
  nodes = let c = carries s l read in arena_nodes s m ∙ rw (c.positions_size, c.actions)

  masks_first : (b : List ℕ) (n : ℕ) → n ≡ nodes_of l.positions.size l.actions m
      → take n (over (masks (arena (game_of s) m)) b) ≡ masks (arena (game_of s) m)
  masks_first b n e = over_first _ b n (e ∙ sym nodes ∙ sym (length_masks (arena (game_of s) m)))

  ranks_first : (b : List ℕ) (n : ℕ) → n ≡ nodes_of l.positions.size l.actions m
      → take n (over (final_ranks (arena (game_of s) m)) b) ≡ final_ranks (arena (game_of s) m)
  ranks_first b n e = over_first _ b n (e ∙ sym nodes ∙ sym (final_length (arena (game_of s) m)))

  masks_room : (b : List ℕ) (n : ℕ) → n ≡ nodes_of l.positions.size l.actions m → n ≤ length (over (masks (arena (game_of s) m)) b)
  masks_room b n e = omega (arith, over_room (masks (arena (game_of s) m)) b, length_masks (arena (game_of s) m), nodes)

  ranks_room : (b : List ℕ) (n : ℕ) → n ≡ nodes_of l.positions.size l.actions m → n ≤ length (over (final_ranks (arena (game_of s) m)) b)
  ranks_room b n e = omega (arith, over_room (final_ranks (arena (game_of s) m)) b, final_length (arena (game_of s) m), nodes)

-- the arms of the solver's answer r, as the code finds them. The buffers had mb and rb, and have ms and rs

module _ (s : List ℕ) (mb rb : List ℕ) where
  abbrev solved : Answer Solved
  solved = solve_answer s (length mb) (length rb)

  pub refused_text : (why : Refusal) (r : Result Solution Refusal) (p : Page) {q : Page} → r ≡ Err why → answer_by solved_by r ≡ solved
      → q ≡ puts p (refused_line (number_of why)) → q ≡ puts p (solved_text s solved)
  unfolding solved_text
  refused_text why r p e told g =
      let a : solved ≡ refused (number_of why) = by_refused solved_by r solved told why e in
      rw a g

  module _ (l x : Layout) (r : Result Solution Refusal) (read : read_answer s ≡ accepted l) where
    -- winning: the buffers are filled for the asked delay
    module _ (y : Solution) (o : r ≡ Ok y) (e : y ≡ solution.Winning x) (told : answer_by solved_by r ≡ solved) where
      won_answer : solved ≡ accepted (record { verdict = wins; layout = x })
      won_answer = by_accepted solved_by r solved told (solution.Winning x) (o ∙ ap Ok e)

      won_masks : (ms : List ℕ) → ms ≡ masks_left s solved mb → ms ≡ over (masks (arena (game_of s) l.delay)) mb
      unfolding masks_left solved_delay
      won_masks ms f = rw (carries s l read).delay (f ∙ rw won_answer)

      won_ranks : (rs : List ℕ) → rs ≡ ranks_left s solved rb → rs ≡ over (final_ranks (arena (game_of s) l.delay)) rb
      unfolding ranks_left solved_delay
      won_ranks rs f = rw (carries s l read).delay (f ∙ rw won_answer)

      module _ (n : ℕ) (ms rs : List ℕ) (is : n ≡ l.positions.size * power_to l.actions (l.delay / 2)) where
        won_nodes : n ≡ nodes_of l.positions.size l.actions l.delay
        won_nodes = counted s l l.delay n read (omega (arith, (carries s l read).delay)) is

        pub won_masks_room : ms ≡ masks_left s solved mb → n ≤ length ms
        won_masks_room f = rw (won_masks ms f) (masks_room s l l.delay read mb n won_nodes)

        pub won_text_lem : (p : Page) {q : Page} → ms ≡ masks_left s solved mb → rs ≡ ranks_left s solved rb
            → q ≡ puts p (won_by l (flags_in s rs most_words) (take n ms))
            → q ≡ puts p (solved_text s solved)
        unfolding solved_text game_text
        won_text_lem p f g h =
            let c = carries s l read in
            let firstMasks : take n ms ≡ masks (arena (game_of s) l.delay) =
            rw (won_masks ms f) (masks_first s l l.delay read mb n won_nodes) in
            let firstRanks : take (arena (game_of s) l.delay).nodes rs ≡ final_ranks (arena (game_of s) l.delay) =
            rw (won_ranks rs g) (ranks_first s l l.delay read rb _ (nodes s l l.delay read)) in
            let good = flags_are s l read rs (rw c.delay at firstRanks) in
            rw won_answer
            (h
            ∙ ap (puts p)
            (won_same c.delay (sym (positions_are s l read)) (sym (actions_are s l read)) c.reached good (rw c.delay at firstMasks)))

    -- losing: they are filled for the least delay that loses
    module _ (m : ℕ) (y : Solution) (o : r ≡ Ok y) (e : y ≡ solution.Losing m x) (told : answer_by solved_by r ≡ solved) where
      lost_answer : solved ≡ accepted (record { verdict = losing m; layout = x })
      lost_answer = by_accepted solved_by r solved told (solution.Losing m x) (o ∙ ap Ok e)

      lost_early : m ≤ delay_of s
      lost_early = losing_within s l m read (solved_is s (length mb) (length rb) _ lost_answer).1

      lost_ranks : (rs : List ℕ) → rs ≡ ranks_left s solved rb → rs ≡ over (final_ranks (arena (game_of s) m)) rb
      unfolding ranks_left solved_delay
      lost_ranks rs f = f ∙ rw lost_answer

      module _ (n : ℕ) (rs : List ℕ) (is : n ≡ l.positions.size * power_to l.actions (m / 2)) (f : rs ≡ ranks_left s solved rb) where
        lost_nodes : n ≡ nodes_of l.positions.size l.actions m
        lost_nodes = counted s l m n read lost_early is

        pub lost_ranks_room : n ≤ length rs
        lost_ranks_room = rw (lost_ranks rs f) (ranks_room s l m read rb n lost_nodes)

        pub lost_text_lem : (p : Page) {q : Page} → q ≡ puts p (lost_by l m (take n rs))
            → q ≡ puts p (solved_text s solved)
        unfolding solved_text game_text
        lost_text_lem p h =
            let c = carries s l read in
            let firstRanks : take n rs ≡ final_ranks (arena (game_of s) m) =
            rw (lost_ranks rs f) (ranks_first s l m read rb n lost_nodes) in
            rw lost_answer
            (h ∙ ap (puts p) (lost_same m c.delay (sym (positions_are s l read)) (sym (actions_are s l read)) c.reached firstRanks))

pub ruleset solving = (rules, few_positions, refused_text, won_masks_room, won_text_lem, lost_ranks_room, lost_text_lem)
