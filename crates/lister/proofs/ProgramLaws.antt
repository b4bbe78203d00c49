-- What the whole program prints: with buffers of 16,384 entries solving never refuses for room, and the text has at most 463,923
-- bytes. Assumes nothing.
use Prim.Native.Nat.{ℕ, ◌*◌, ◌/◌, ◌^◌, ◌≤◌, ◌<◌}
use mathlib.Core.Path.{◌≡◌, refl, ap, ◌∙◌}
use mathlib.Core.Bool.{Bool, true, false}
use mathlib.Core.Logic.{⊎_elim}
use mathlib.Core.List.{List}
use native.Mathlib.Omega.{arith}
use native.Mathlib.Nat.{le_trans, mul-le-mul_left, mul-le-mul_right, pow-le-pow_right}
use lib.Dec.{ltb}
use lib.ListN.{length, get_or, length-append}
use borrow.Author.Tests.{le-leb}
use Rattle.theory.specs.Answer.{Answer, refused, accepted, check, on_accepted}
use Rattle.theory.specs.Strategy.{initial_length}
use Rattle.theory.specs.Rounds.{masks, final_ranks}
use Rattle.theory.specs.Delay.{Verdict, wins, losing, arena, words, flags, answer}
use Rattle.theory.specs.Reach.{reached}
use Rattle.theory.proofs.Fold.{bool, both_true}
use Rattle.theory.proofs.Answer.{check_passed}
use Rattle.theory.proofs.Rounds.{final_length, final_le}
use Rattle.theory.proofs.Region.{length_masks}
use Rattle.theory.proofs.Reach.{reached_few}
use Rattle.sheet.specs.Limits.{most_positions, most_actions, most_delay, most_nodes, most_words}
use Rattle.sheet.specs.Bodies.{delay_of}
use Rattle.reader.specs.Reading.{checked_answer, read_answer}
use Rattle.sheet.specs.SheetGame.{game_of}
use Rattle.reader.specs.declared.reading.Layout.{Layout}
use Rattle.reader.proofs.Accepted.{Ranges, read_is, ranges, few_nodes, arena_nodes}
use Rattle.text.specs.Page.{Page, page, puts}
use Rattle.text.proofs.Page.{written}
use Rattle.text.proofs.Lines.{length_winning}
use Rattle.text.proofs.Sizes.{refused_size, losing_size, head_size, starts_size, allows_size, ranks_size}
use Rattle.solver.specs.Solving.{solve_answer}
use Rattle.theory.specs.Buffer.{over}
use Rattle.lister.specs.Listing.{most_input, won_text, lost_text, game_text, read_text, listing_of, program_text, solved_text, text_with}
use Rattle.lister.proofs.SolvedLaws.{losing_within}
use Rattle.region.proofs.FlagLaws.{few_words}
use Rattle.lister.proofs.Words.{flags_length}

-- the buffers suffice

module _ (s : List ℕ) (m n : ℕ) (masks_room : most_nodes ≤ m) (ranks_room : most_nodes ≤ n) where
  solved_read : (a : Answer Layout) → read_answer s ≡ a → solved_text s (solve_answer s m n) ≡ read_text s a
  unfolding solve_answer on_accepted solved_text read_text
  solved_read (refused k) e = rw e
  solved_read (accepted l) e =
      let few : (arena (game_of s) (delay_of s)).nodes ≤ most_nodes = rw (arena_nodes s (delay_of s)) (few_nodes s l e) in
      let room = both_true _ _ (le-leb (arena (game_of s) (delay_of s)).nodes m (omega arith)) (le-leb (arena (game_of s) (delay_of s)).nodes n (omega arith)) in
      rw (e, check_passed _ 8 _ room)

  pub enough : text_with s m n ≡ program_text s
  unfolding text_with program_text listing_of
  enough = rw (solved_read (read_answer s) refl)

-- the refusals that reading gives

abbrev SmallRefusal : Answer Layout → Type 0
SmallRefusal (refused n) = n < 100
SmallRefusal (accepted l) = 0 ≤ 0

small_check : (b : Bool) (n : ℕ) (rest : Answer Layout) → n < 100 → SmallRefusal rest → SmallRefusal (check b n rest)
unfolding check
small_check true n rest h g = g
small_check false n rest h g = h

small_on : (a : Answer Layout) (f : Layout → Answer Layout) → SmallRefusal a → ((l : Layout) → SmallRefusal (f l))
    → SmallRefusal (on_accepted a f)
unfolding on_accepted
small_on (refused n) f h g = h
small_on (accepted l) f h g = g l

small_refusal : (s : List ℕ) → SmallRefusal (read_answer s)
unfolding read_answer checked_answer
small_refusal s =
    small_on (checked_answer s) _
    (small_check _ 1 _ (omega arith)
    (small_check _ 2 _ (omega arith)
    (small_check _ 3 _ (omega arith)
    (small_check _ 4 _ (omega arith)
    (small_check _ 5 _ (omega arith)
    (small_check _ 24 _ (omega arith) (small_check _ 6 _ (omega arith) (omega arith))))))))
    (λ l. small_check _ 7 (accepted l) (omega arith) (omega arith))

-- the sizes of an accepted sheet's text

abbrev pub largest_text : ℕ
largest_text = 463923

won_size : (d p a n : ℕ) (fs ms : List ℕ) → d ≤ most_delay → p ≤ most_positions → 0 < a → a ≤ most_actions → n ≤ most_positions
    → length fs ≤ most_words → length ms ≤ most_positions * a ^ (d / 2) → length ms ≤ most_nodes → length (won_text d p a n fs ms) ≤ largest_text
unfolding won_text
won_size d p a n fs ms f g h i e j k l =
    let head = head_size d p a n (omega arith) g (omega arith) e in
    let starts = starts_size a (initial_length d) fs (omega arith) j in
    let allows = allows_size a (d / 2) ms h (omega arith) k l i in
    simp length-append (omega (arith, length_winning, head, starts, allows))

lost_size : (d p a n m : ℕ) (rs : List ℕ) → d ≤ most_delay → p ≤ most_positions → 0 < a → a ≤ most_actions → n ≤ most_positions → m ≤ most_delay
    → length rs ≤ most_positions * a ^ (m / 2) → length rs ≤ most_nodes → ((k : ℕ) → k < length rs → get_or rs k 0 < 65536)
    → length (lost_text d p a n m rs) ≤ largest_text
unfolding lost_text
lost_size d p a n m rs f g h i e j k l b =
    let head = head_size d p a n (omega arith) g (omega arith) e in
    let line = losing_size m (omega arith) in
    let ranks = ranks_size a (m / 2) rs h (omega arith) k l b in
    simp length-append (omega (arith, head, line, ranks))

module _ (s : List ℕ) (l : Layout) (e : read_answer s ≡ accepted l) where
  r : Ranges s
  r = ranges s (read_is s l e).0

  few_positions : (game_of s).positions ≤ most_positions
  unfolding game_of
  few_positions = r.few_positions

  some_action : 0 < (game_of s).actions
  unfolding game_of
  some_action = r.some_action

  few_actions : (game_of s).actions ≤ most_actions
  unfolding game_of
  few_actions = r.few_actions

  few_reached : reached (game_of s) ≤ most_positions
  few_reached = le_trans (reached_few (game_of s)) few_positions

  nodes_words : (m : ℕ) → (arena (game_of s) m).nodes ≤ most_positions * (game_of s).actions ^ (m / 2)
  unfolding arena words
  nodes_words m = mul-le-mul_right ((game_of s).actions ^ (m / 2)) few_positions

  nodes_fewer : (m : ℕ) → m ≤ delay_of s → (arena (game_of s) m).nodes ≤ (arena (game_of s) (delay_of s)).nodes
  unfolding arena words
  nodes_fewer m h = mul-le-mul_left (game_of s).positions (pow-le-pow_right some_action (omega arith))

  nodes_few : (m : ℕ) → m ≤ delay_of s → (arena (game_of s) m).nodes ≤ most_nodes
  nodes_few m h =
      let asked : (arena (game_of s) (delay_of s)).nodes ≤ most_nodes = rw (arena_nodes s (delay_of s)) (few_nodes s l e) in
      le_trans (nodes_fewer m h) asked

  game_size : (v : Verdict) → answer (game_of s) (delay_of s) ≡ v → length (game_text (game_of s) (delay_of s) v) ≤ largest_text
  unfolding game_text
  game_size wins q =
      won_size (delay_of s) (game_of s).positions (game_of s).actions (reached (game_of s)) (flags (game_of s) (delay_of s)) (masks (arena (game_of s) (delay_of s)))
      r.short_delay few_positions some_action few_actions few_reached (rw (flags_length s l e) (few_words s l e))
      (rw (length_masks (arena (game_of s) (delay_of s))) (nodes_words (delay_of s)))
      (rw (length_masks (arena (game_of s) (delay_of s))) (nodes_few (delay_of s) (omega arith)))
  game_size (losing m) q =
      let h : m ≤ delay_of s = losing_within s l m e q in
      let few : (arena (game_of s) m).nodes ≤ most_nodes = nodes_few m h in
      lost_size (delay_of s) (game_of s).positions (game_of s).actions (reached (game_of s)) m (final_ranks (arena (game_of s) m))
      r.short_delay few_positions some_action few_actions few_reached (omega (arith, r.short_delay))
      (rw (final_length (arena (game_of s) m)) (nodes_words m))
      (rw (final_length (arena (game_of s) m)) few)
      (λ k g. omega (arith, final_le (arena (game_of s) m) k))

read_size : (s : List ℕ) (a : Answer Layout) → read_answer s ≡ a → SmallRefusal a → length (read_text s a) ≤ largest_text
unfolding read_text
read_size s (refused n) e h = omega (arith, refused_size n h)
read_size s (accepted l) e h = game_size s l e (answer (game_of s) (delay_of s)) refl

-- the largest text
pub fits : (s : List ℕ) → length (program_text s) ≤ largest_text
unfolding program_text listing_of
fits s =
    ⊎_elim
    (λ (t : ltb most_input (length s) ≡ true). rw t (omega (arith, refused_size 1 (omega arith))))
    (λ (f : ltb most_input (length s) ≡ false). rw f (read_size s (read_answer s) refl (small_refusal s)))
    (bool (ltb most_input (length s)))

-- so the program's buffer holds it whole

module _ (s out out' : List ℕ) (r : ℕ) (room : 464000 ≤ length out) (e : page out' r ≡ puts (page out 0) (text_with s most_nodes most_nodes)) where
  whole : page out' r ≡ page (over (program_text s) out) (length (program_text s))
  unfolding over
  whole = e ∙ ap (puts (page out 0)) (enough s most_nodes most_nodes (omega arith) (omega arith)) ∙ written (program_text s) out (omega (arith, fits s))

  pub whole_size : r ≡ length (program_text s)
  whole_size = ap (λ (p : Page). p.at) whole

  pub whole_text : out' ≡ over (program_text s) out
  whole_text = ap (λ (p : Page). p.bytes) whole
