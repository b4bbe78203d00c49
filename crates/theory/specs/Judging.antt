-- Judging a table made elsewhere (document 02, W-202), for any game, delay and table: "the pairs that have a mask taken as the kept
-- ones and the others as fallen". Assumes nothing.
use Rattle.std.specs.Prelude.{ℕ, Bool, not, cond}
use Rattle.theory.specs.Fold.{both, either, all_below, first_not}
use Rattle.theory.specs.Game.{Game}
use Rattle.theory.specs.Rounds.{Arena, spoilt_by}
use Rattle.theory.specs.Delay.{initial_words, arena, good_from}
use Rattle.theory.specs.Table.{Table, flagged, lacks, has, allows}

-- "every flagged first word is good"
unfoldable pub word_ok : Game → ℕ → Table → ℕ → Bool
word_ok G d T v = either (not (flagged T v)) (good_from G d (has T) v)

-- "no command in any mask is spoilt"
unfoldable pub action_ok : Arena → Table → ℕ → ℕ → Bool
action_ok E T k c = either (not (allows T k c)) (not (spoilt_by E (lacks T) k c))

-- "and every pair with a mask has the right side and a safe position"
unfoldable pub node_ok : Arena → Table → ℕ → Bool
node_ok E T k = either (lacks T k) (both (E.right k) (both (E.safe k) (all_below (action_ok E T k) E.actions)))

-- yes, or no with the number of what offends
pub data Ruling : Type 0 where
  sound : Ruling
  bad_word : ℕ → Ruling
  bad_node : ℕ → Ruling

-- "On no, give the first offending word, else the first offending pair"
unfoldable pub ruling : Game → ℕ → Table → Ruling
ruling G d T =
    cond (all_below (word_ok G d T) (initial_words G d))
    (cond (all_below (node_ok (arena G d) T) (arena G d).nodes) sound (bad_node (first_not (node_ok (arena G d) T) (arena G d).nodes)))
    (bad_word (first_not (word_ok G d T) (initial_words G d)))
