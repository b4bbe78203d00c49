-- The table of specs/cases/Sheets.antt holds, by computation from the definitions, and so does what the guess yard means. Assumes nothing.
use Prim.Native.Nat.{◌*◌}
use mathlib.Core.Path.{◌≡◌, refl}
use mathlib.Core.Bool.{true, false}
use mathlib.Core.List.{[], ◌∷◌, map}
use lib.ListN.{length, replicate}
use Rattle.theory.specs.Fold.{tabulate}
use Rattle.theory.specs.Game.{absent, to}
use Rattle.sheet.specs.Limits.{width, gated_contents}
use Rattle.sheet.specs.Form.{entry_size}
use Rattle.sheet.specs.Bodies.{game_letters, gated_letters}
use Rattle.reader.specs.Reading.{read_answer}
use Rattle.sheet.specs.SheetGame.{game_of}
use Rattle.reader.specs.cases.Sheets.{Case, guess_bytes, guess_s, guess_p, guess_c, guess_u, lines, star, layout_at, layout, held_bytes, gated_faults, right, wrong, cases}
use Rattle.reader.proofs.Computing.{sheet_computes}

pub answers : map (λ (x : Case). read_answer x.sheet) cases ≡ map (λ (x : Case). x.answer) cases
unfolding sheet_computes guess_bytes guess_s guess_p guess_c guess_u lines star layout_at layout held_bytes gated_faults right wrong cases
answers = refl

-- the guess yard's targets, moves, own and safe positions, as document 01 writes them; position 4 does not exist
pub guess_means : record {
  targets : tabulate (λ q. tabulate ((game_of guess_bytes).target q) 0 3) 0 4
      ≡ (to 2 ∷ to 3 ∷ absent ∷ []) ∷ (to 3 ∷ to 2 ∷ absent ∷ []) ∷ (absent ∷ absent ∷ absent ∷ []) ∷ (absent ∷ absent ∷ absent ∷ []) ∷ [];
  moves : tabulate (game_of guess_bytes).moves 0 5 ≡ [] ∷ [] ∷ (0 ∷ 1 ∷ []) ∷ (0 ∷ []) ∷ [] ∷ [];
  own : tabulate (game_of guess_bytes).controller 0 5 ≡ true ∷ true ∷ false ∷ false ∷ false ∷ [];
  safe : tabulate (game_of guess_bytes).safe 0 5 ≡ true ∷ true ∷ true ∷ false ∷ false ∷ [];
}
unfolding sheet_computes guess_bytes
guess_means = record { targets = refl; moves = refl; own = refl; safe = refl }

-- the split gate with holding gates: position 0 does action 0 for action 1, and for no action that the yard hasn't; position 1, which has
-- no action 0, holds nothing
pub split_means : tabulate (λ q. tabulate ((game_of held_bytes).target q) 0 8) 0 3
    ≡ (to 2 ∷ to 2 ∷ replicate 6 absent) ∷ (absent ∷ to 2 ∷ replicate 6 absent) ∷ replicate 8 absent ∷ []
unfolding sheet_computes held_bytes
split_means = refl

-- "so 20 bytes of contents"; "contents are then 25 bytes"
pub contents_size : entry_size width * length game_letters ≡ 20
unfolding entry_size
contents_size = refl

pub gated_size : entry_size width * length gated_letters ≡ gated_contents
unfolding entry_size
gated_size = refl
