-- Good first words, as the code of src/words.rt finds them, and that they are theory's. Assumes nothing.
use Prim.Native.Nat.{ℕ, ◌+◌, ◌*◌, ◌/◌, ◌%◌, ◌^◌, ◌≤◌, ◌<◌, suc}
use mathlib.Core.Path.{◌≡◌, refl, ◌∙◌, ap, fun_ext}
use mathlib.Core.Bool.{Bool, true, false}
use mathlib.Core.List.{List}
use native.Mathlib.Omega.{arith}
use native.Mathlib.Nat.{mul-le-mul, mod-lt, pow-suc}
use mir.Val.{Fits}
use mir.Syntax.{w64}
use lib.ListN.{length}
use borrow.Author.Rules.{rules}
use borrow.Author.Tests.{lt-ltb}
use Rattle.theory.specs.Fold.{any_below}
use Rattle.theory.specs.Game.{Game}
use Rattle.theory.specs.Rounds.{final_ranks, kept, kept_by}
use Rattle.theory.specs.Delay.{odd, words, arena, good_by, good_from, good_with, winning, initial_words}
use Rattle.theory.proofs.Fold.{both_second, bool}
use Rattle.sheet.specs.code.Arrays.{view_of}
use Rattle.walk.specs.declared.level.Level.{Level}
use Rattle.walk.specs.code.Levels.{arena_of}
use Rattle.walk.specs.code.Nodes.{Sized}
use Rattle.walk.proofs.Products.{product_small, product_fits, sum_fits}
use Rattle.walk.specs.code.Levels.{level_at}
use Rattle.region.specs.code.Kept.{on_side, moveless_game, good_in, words_on, first_words, some_good}
use Rattle.walk.proofs.LevelLaws.{arena_is}
use Rattle.walk.proofs.NodeLaws.{sized_tested}
use Rattle.sheet.specs.Limits.{most_actions, most_nodes, most_positions}
use Rattle.sheet.specs.code.Steps.{most_power}
use mathlib.Core.Logic.{⊎_elim}
use Rattle.theory.proofs.Pending.{odd_delay, even_delay}
use Rattle.theory.specs.Strategy.{initial_length}

-- first words

pub few_words_fit : {w a : ℕ} → w ≤ most_nodes → a ≤ most_actions → Fits w64 (w * a)
few_words_fit {w} {a} h k = record { fits = omega (arith, product_small {a = w} {b = a} (omega arith) (omega arith)) }

pub first_words_few : {m : ℕ} {l : Level} → Sized m l → first_words l ≤ most_nodes * most_actions
unfolding first_words words_on
first_words_few {m} {l} s = by l.odd
  where
    by : (b : Bool) → words_on b l ≤ most_nodes * most_actions
    by true = mul-le-mul s.few_words s.few_actions
    by false = let h = s.few_words in omega arith

-- a node number fits a word

pub node_fits : {m q t : ℕ} {l : Level} → Sized m l → q ≡ t → t < most_power → Fits w64 (q * l.words)
node_fits s e h = let f = s.few_words in product_fits (omega arith) (omega arith)

pub start_fits : {m q : ℕ} {l : Level} → Sized m l → q < most_positions → Fits w64 (q * l.words)
start_fits s h = let f = s.few_words in product_fits (omega arith) (omega arith)

pub even_fits : {m q v : ℕ} {l : Level} → Sized m l → q < most_positions → v < first_words l → Fits w64 (q * l.words + v)
even_fits s h k = let f = s.few_words in let g = first_words_few s in sum_fits (omega arith) (omega arith) (omega arith)

pub odd_fits : {m q t : ℕ} (v : ℕ) {l : Level} → Sized m l → q ≡ t → t < most_power → Fits w64 (q * l.words + v % l.words)
odd_fits v s e h =
    let f = s.few_words in
    let r = mod-lt v s.some_word in
    sum_fits (omega arith) (omega arith) (omega arith)

pub ruleset fitting = (rules, node_fits, start_fits, even_fits, odd_fits)

-- the same for any level (specs/code/Kept.antt, some_good): for those who know that the numbers are small

pub good_known : (p : List ℕ) (g : List (List ℕ)) (l : Level) (ranks : List ℕ) {r : Bool} → Sized (length p) l → l.start < most_positions
    → r ≡ some_good p g l ranks → r ≡ any_below (good_in p g l ranks) (first_words l)
good_known p g l ranks s h e = e ∙ both_second _ _ (sized_tested _ l s) ∙ both_second _ _ (lt-ltb _ _ h)

-- the arrays' kept nodes and good words are those of their game

pub kept_is : (p : List ℕ) (g : List (List ℕ)) (u f : List ℕ) (l : Level) (ranks : List ℕ) (k : ℕ)
    → kept_by (on_side p l) ranks k ≡ kept (arena_of p g u f l) ranks k
unfolding kept_by on_side arena_of view_of
kept_is p g u f l ranks k = refl

-- a first word does not ask about moves
moveless : (p : List ℕ) (g : List (List ℕ)) (u f : List ℕ) (l : Level) (keeps : ℕ → Bool) (v : ℕ) (b : Bool)
    → good_by b (moveless_game p g l) l.words keeps v ≡ good_by b (view_of p g u f l.start l.actions) l.words keeps v
unfolding good_by view_of
moveless p g u f l keeps v true = refl
moveless p g u f l keeps v false = refl

module _ (p : List ℕ) (g : List (List ℕ)) (u f : List ℕ) (start actions d : ℕ) where
  abbrev level : Level
  level = level_at (length p) start actions d

  abbrev game : Game
  game = view_of p g u f start actions

  pub words_is : first_words level ≡ initial_words game d
  unfolding first_words words_on initial_words view_of
  words_is =
      ⊎_elim
      (λ (e : odd d ≡ true).
      let m = odd_delay d e in
      let q : initial_length d ≡ suc (d / 2) = omega arith in
      rw (e, q, pow-suc actions (d / 2)))
      (λ (e : odd d ≡ false).
      let m = even_delay d e in
      let q : initial_length d ≡ d / 2 = omega arith in
      rw (e, q))
      (bool (odd d))

  pub good_is : (ranks : List ℕ) (v : ℕ) → good_in p g level ranks v ≡ good_with game d ranks v
  unfolding good_in good_with good_from words view_of
  good_is ranks v =
      moveless p g u f level (kept_by (on_side p level) ranks) v (odd d)
      ∙ ap
      (λ (keeps : ℕ → Bool). good_by (odd d) game (actions ^ (d / 2)) keeps v)
      (fun_ext (kept_is p g u f level ranks) ∙ ap (λ E. kept E ranks) (arena_is p g u f start actions d))

  pub winning_is : {ranks : List ℕ} {r : Bool} → ranks ≡ final_ranks (arena game d)
      → r ≡ any_below (good_in p g level ranks) (first_words level) → r ≡ winning game d
  unfolding winning
  winning_is {ranks} {r} e q =
      q
      ∙ ap (λ (test : ℕ → Bool). any_below test (first_words level)) (fun_ext (good_is ranks))
      ∙ ap (any_below (good_with game d ranks)) words_is
      ∙ ap (λ l. any_below (good_with game d l) (initial_words game d)) e
