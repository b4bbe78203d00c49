-- The largest part of a table that the judging rule allows (specs/Closing.antt, within), whoever made the table: it fits, lies inside the
-- table, is judged, and holds every judged table inside. Assumes nothing.
use Prim.Native.Nat.{ℕ}
use mathlib.Core.Path.{◌≡◌, sym, ◌∙◌, ap}
use mathlib.Core.Logic.{⊎_elim}
use mathlib.Core.List.{List}
use native.Mathlib.Omega.{arith}
use lib.ListN.{get_or}
use lib.Seq.{ext_get_or}
use Rattle.theory.specs.Game.{Game, Legal}
use Rattle.theory.specs.Rounds.{masks}
use Rattle.theory.specs.Delay.{arena}
use Rattle.theory.specs.Table.{Table, flagged, bit, allows, TableFits, Judged, Inside}
use Rattle.theory.specs.Closing.{restrict, part, within, SizedMasks, StandingMasks, BelowMasks}
use Rattle.theory.proofs.Fold.{same?}
use Rattle.theory.proofs.Tables.{flagged_flag, flag_flagged}
use Rattle.theory.proofs.Standing.{masks_same, standing_below}
use Rattle.theory.proofs.Part.{fits_sized, judged_standing, part_flagged, part_allowed, part_fits, part_judged, part_largest}
use Rattle.theory.proofs.OurTable.{flagged_word}

module _ (G : Game) (d : ℕ) (T : Table) where
  pub within_fits : TableFits G d (within G d T)
  unfolding within
  within_fits = part_fits G d (flagged T) (allows T)

  -- "pairs, commands and first words are only taken away"
  pub within_inside : Inside (within G d T) T
  unfolding within
  within_inside =
      record {
        flags = λ v f. (part_flagged G d (flagged T) (allows T) v f).1;
        masks = part_allowed G d (flagged T) (allows T);
      }

  pub within_judged : Legal G → Judged G d (within G d T)
  unfolding within
  within_judged legal = part_judged G d (flagged T) (allows T) legal

  pub within_largest : Legal G → (T' : Table) → TableFits G d T' → Judged G d T' → Inside T' T → Inside T' (within G d T)
  unfolding within
  within_largest legal T' fits judged inside =
      part_largest G d (flagged T) (allows T) legal T' (fits_sized G d T' fits) judged
      (λ v f. (flagged_word G d T' fits v f, inside.flags v f))
      inside.masks

-- tables of the same sizes that lie inside each other are the same
module _ (G : Game) (d : ℕ) (T T' : Table) (fits : TableFits G d T) (fits' : TableFits G d T') (f : Inside T T') (g : Inside T' T) where
  same_flag : (v : ℕ) → get_or T.flags v 0 ≡ get_or T'.flags v 0
  same_flag v =
      let s = fits.flags_small v in
      let s' = fits'.flags_small v in
      ⊎_elim
      (λ (z : get_or T.flags v 0 ≡ 0).
      ⊎_elim
      (λ (z' : get_or T'.flags v 0 ≡ 0). omega arith)
      (λ n. absurd (flagged_flag T v (g.flags v (flag_flagged T' v n)) z))
      (same? (get_or T'.flags v 0) 0))
      (λ (n : get_or T.flags v 0 ≡ 0 → ⊥).
      ⊎_elim
      (λ z'. absurd (flagged_flag T' v (f.flags v (flag_flagged T v n)) z'))
      (λ (n' : get_or T'.flags v 0 ≡ 0 → ⊥). omega arith)
      (same? (get_or T'.flags v 0) 0))
      (same? (get_or T.flags v 0) 0)

  pub table_same : T ≡ T'
  unfolding allows
  table_same =
      let flags = ext_get_or 0 T.flags T'.flags (fits.flags_length ∙ sym fits'.flags_length) (λ v h. same_flag v) in
      let masks =
      masks_same (arena G d) T.masks (fits_sized G d T fits) T'.masks (fits_sized G d T' fits') f.masks g.masks in
      ap (λ (w : List ℕ). record { flags = w; masks = T.masks }) flags
      ∙ ap (λ (m : List ℕ). record { flags = T'.flags; masks = m }) masks

-- the masks of the part are those of the table's alone
pub masks_only : (G : Game) (d : ℕ) (T T' : Table) → T.masks ≡ T'.masks → (within G d T).masks ≡ (within G d T').masks
unfolding within part allows
masks_only G d T T' e = ap (λ (m : List ℕ). masks (restrict (arena G d) (λ k c. bit (get_or m k 0) c))) e

-- masks found by taking away what does not stand until all does
pub largest_masks : (G : Game) → Legal G → (d : ℕ) (T : Table) (m : List ℕ) → SizedMasks (arena G d) m → StandingMasks (arena G d) m
    → BelowMasks m T.masks
    → ((x : List ℕ) → SizedMasks (arena G d) x → StandingMasks (arena G d) x → BelowMasks x T.masks → BelowMasks x m)
    → m ≡ (within G d T).masks
unfolding within part allows
largest_masks G legal d T m sized standing below holds =
    let fits = fits_sized G d (within G d T) (within_fits G d T) in
    masks_same (arena G d) m sized (within G d T).masks fits
    (standing_below (arena G d) (allows T) m sized standing below)
    (holds (within G d T).masks fits (judged_standing G d (within G d T) (within_judged G d T legal)) (within_inside G d T).masks)
