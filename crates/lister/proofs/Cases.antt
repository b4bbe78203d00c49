-- Texts computed from the definitions alone: document 01's listing of the guess yard, the same yard at lag 0, and a refusal.
-- Assumes nothing.
use mathlib.Core.Path.{◌≡◌, refl}
use lib.ListN.{take}
use Rattle.reader.specs.cases.Yards.{guess}
use Rattle.reader.specs.cases.Sheets.{guess_bytes}
use Rattle.text.specs.Ascii.{ascii}
use Rattle.lister.specs.Listing.{won_text, lost_text, game_text, read_text, listing_of, program_text}
use Rattle.reader.proofs.Computing.{sheet_computes}
use Rattle.text.proofs.Computing.{text_computes}

pub listings : record {
  guess_1 : program_text guess_bytes ≡ ascii "lag 1 positions 4 commands 2 reached 4\nlosing 1\npair 2 - rank 2\npair 3 - rank 1\n";
  guess_0 : program_text (guess 0 0)
      ≡ ascii "lag 0 positions 4 commands 2 reached 4\nwinning\nstart -\npair 0 - allow 0\npair 1 - allow 1\n";
  guess_cut : program_text (take 44 guess_bytes) ≡ ascii "refused 1\n";
}
unfolding sheet_computes text_computes guess_bytes won_text lost_text game_text read_text listing_of program_text
listings = record { guess_1 = refl; guess_0 = refl; guess_cut = refl }
