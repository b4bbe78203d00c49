-- Every case of specs/cases holds of the definitions, by computation. Assumes nothing.
use mathlib.Core.Path.{◌≡◌, refl}
use mathlib.Core.Bool.{true, false}
use mathlib.Core.List.{[], ◌∷◌, map}
use Rattle.theory.specs.Reach.{reached}
use Rattle.theory.specs.Judging.{ruling}
use Rattle.theory.specs.Closing.{post}
use Rattle.theory.specs.cases.Holding.{held_lines, held_rows, held_answers, plain_answers}
use Rattle.theory.specs.cases.Notices.{forked, notices}
use Rattle.theory.specs.cases.Tables.{judgings}
use Rattle.theory.specs.cases.Games.{target_from, moves_from, game_from, result_by, result_of, passing, chosen, slow, chained, turned, cases, cut, reached_games, reached_numbers}
use Rattle.theory.proofs.Computing.{theory_computes}

pub cases_met : map (λ c. result_of c.game c.delay) cases ≡ map (λ c. c.result) cases
unfolding theory_computes target_from moves_from game_from result_by result_of passing chosen slow chained turned cases
cases_met = refl

pub reached_met : map reached reached_games ≡ reached_numbers
unfolding theory_computes target_from moves_from game_from passing slow cut reached_games reached_numbers
reached_met = refl

pub judgings_met : map (λ j. ruling passing j.delay j.table) judgings ≡ map (λ j. j.answer) judgings
unfolding theory_computes target_from moves_from game_from passing judgings
judgings_met = refl

pub notices_met : map (λ n. post n.game n.delay n.closed n.table) notices ≡ map (λ n. n.left) notices
unfolding theory_computes target_from moves_from game_from passing forked notices
notices_met = refl

pub held_met : held_rows true ∷ held_rows false ∷ [] ≡ held_answers ∷ plain_answers ∷ []
unfolding theory_computes target_from held_lines held_rows held_answers plain_answers
held_met = refl
