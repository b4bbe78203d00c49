-- The first words: a flag stands, by the flags of the words that are good by the marks, exactly if the word passes theory's test. Assumes
-- nothing.
use Prim.Native.Nat.{ℕ, ◌≤◌, ◌<◌}
use mathlib.Core.Path.{◌≡◌, refl, sym, ◌∙◌, ap}
use mathlib.Core.Bool.{Bool, true, false, not, cond}
use mathlib.Core.List.{List}
use native.Mathlib.Omega.{arith}
use lib.Dec.{eqb}
use lib.ListN.{length, get_or, replicate, length-replicate}
use Rattle.theory.specs.Game.{Game, Legal}
use Rattle.theory.specs.Rounds.{fell, kept_by}
use Rattle.theory.specs.Delay.{initial_words, arena, good_from, good_with, flag_by}
use Rattle.theory.specs.Table.{Table, flagged, lacks, has, TableFits}
use Rattle.theory.specs.Judging.{word_ok}
use Rattle.theory.proofs.Fold.{same_test, both_true, both_right, not_not, length_tabulate, get_d_tabulate}
use Rattle.theory.proofs.Buffer.{over_front}
use Rattle.theory.proofs.Tables.{good_sided}
use Rattle.sheet.specs.Limits.{most_words}
use Rattle.sheet.specs.Bodies.{delay_of}
use Rattle.sheet.specs.SheetGame.{game_of}
use Rattle.reader.specs.declared.reading.Layout.{Layout}
use Rattle.reader.proofs.Legality.{legal_game}
use Rattle.region.specs.code.Flags.{flag_with, flags_after}
use Rattle.region.proofs.FlagLaws.{words_counted, few_words}
use Rattle.rule.specs.code.Parts.{mark_for, mark_at, Marked}
use Rattle.judge.specs.code.Tests.{flag_stands, good_flags}
use Rattle.judge.specs.code.Judgeable.{table_with, Judgeable}

pub flag_test : (b : Bool) → not (eqb (cond b 1 0) 0) ≡ b
flag_test true = refl
flag_test false = refl

module _ (G : Game) (legal : Legal G) (d : ℕ) (T : Table) (fits : TableFits G d T) (marks : List ℕ) (marked : Marked T.masks marks) where
  marks_fell : (k : ℕ) → k < (arena G d).nodes → fell marks k ≡ lacks T k
  unfolding fell mark_for mark_at lacks
  marks_fell k h = rw (marked k (rw fits.masks_length h)) (flag_test (eqb (get_or T.masks k 0) 0))

  -- the words that are good by the marks are those that are good by the table
  pub good_same : (v : ℕ) → v < initial_words G d → good_with G d marks v ≡ good_from G d (has T) v
  unfolding good_with kept_by has
  good_same v h =
      same_test _ _
      (good_sided G legal d _ _ v h (λ k n r e. ap not (sym (marks_fell k n)) ∙ both_right _ _ e))
      (good_sided G legal d _ _ v h (λ k n r e. both_true _ _ r (ap not (marks_fell k n) ∙ e)))

  word_is : (good : List ℕ) (v : ℕ) → v < initial_words G d → get_or good v 0 ≡ flag_by (good_with G d marks) v
      → flag_stands T.flags good v ≡ word_ok G d T v
  unfolding flag_stands word_ok flagged flag_by
  word_is good v h e =
      rw (e, not_not (eqb (get_or T.flags v 0) 0), flag_test (good_with G d marks v), good_same v h)

module _ (s : List ℕ) (l : Layout) (flags masks : List ℕ) (j : Judgeable s l flags masks) (marks : List ℕ) (marked : Marked masks marks) where
  pub flag_in : (b : List ℕ) (v : ℕ) → most_words ≤ length b → v < initial_words (game_of s) (delay_of s)
      → get_or (flags_after s marks b) v 0 ≡ flag_by (good_with (game_of s) (delay_of s) marks) v
  unfolding flags_after flag_with
  flag_in b v room h =
      let n = words_counted s l (length b) j.reads (omega (arith, few_words s l j.reads)) in
      over_front _ b v (rw (n, length_tabulate (flag_by (good_with (game_of s) (delay_of s) marks)) 0 (initial_words (game_of s) (delay_of s))) h)
      ∙ rw n (get_d_tabulate (flag_by (good_with (game_of s) (delay_of s) marks)) (initial_words (game_of s) (delay_of s)) v 0 h)

  pub flag_is : (v : ℕ) → v < initial_words (game_of s) (delay_of s)
      → flag_stands flags (good_flags s marks) v ≡ word_ok (game_of s) (delay_of s) (table_with flags masks) v
  unfolding good_flags
  flag_is v h =
      word_is (game_of s) (legal_game s l j.reads) (delay_of s) (table_with flags masks) j.fits marks marked
      (flags_after s marks (replicate most_words 0)) v h
      (flag_in (replicate most_words 0) v (rw (length-replicate {A = ℕ} most_words 0) (omega arith)) h)
