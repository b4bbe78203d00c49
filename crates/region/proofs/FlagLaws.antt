-- The flags of first words, as the code of src/words.rt writes them, and that by the final ranks they are theory's. Assumes nothing.
use Prim.Native.Nat.{ℕ, ◌≤◌, ◌<◌}
use mathlib.Core.Path.{◌≡◌, refl, sym, ◌∙◌, ap, fun_ext}
use mathlib.Core.Bool.{Bool, true, false, cond}
use mathlib.Core.List.{List, ◌++◌}
use native.Mathlib.Omega.{arith}
use mir.Val.{bool_byte as from_bool}
use lib.ListN.{length, take, drop, length-append, length-drop}
use lib.Seq.{get_or-take, length-take-le}
use borrow.Author.Rules.{rules}
use borrow.Author.Tests.{le-leb, lt-leb}
use Rattle.theory.specs.Fold.{tabulate}
use Rattle.theory.specs.Answer.{accepted}
use Rattle.theory.specs.Game.{Game, Legal}
use Rattle.theory.specs.Rounds.{fell, kept, final_ranks, kept_by}
use Rattle.theory.specs.Delay.{initial_words, arena, good_with, flags, flag_by}
use Rattle.theory.proofs.Fold.{same_test, tabulate_zero, tabulate_same, length_tabulate}
use Rattle.theory.proofs.Tables.{good_more}
use Rattle.sheet.specs.Form.{part_at}
use Rattle.sheet.specs.Bodies.{positions_body, action_count, start_of, delay_of}
use Rattle.reader.specs.code.Laid.{grid_at}
use Rattle.reader.specs.Reading.{read_answer}
use Rattle.sheet.specs.Refusals.{answer_of}
use Rattle.sheet.proofs.RefusalLaws.{answer_accepted}
use Rattle.sheet.proofs.SizeLaws.{few_first_words}
use Rattle.sheet.specs.SheetGame.{game_of}
use Rattle.sheet.specs.code.Arrays.{view_of, firsts_of}
use Rattle.sheet.specs.declared.refusal.Refusal.{Refusal}
use Rattle.reader.specs.declared.reading.Layout.{Layout}
use Rattle.std.proofs.Common.{Result, Ok, Err}
use Rattle.reader.proofs.Accepted.{read_is, ranges, carries}
use Rattle.reader.proofs.Legality.{controller_inside, legal_game}
use Rattle.walk.specs.declared.level.Level.{Level}
use Rattle.walk.proofs.NodeLaws.{filled_all}
use Rattle.theory.proofs.Filling.{filled, filled_none, filled_more, filled_done}
use Rattle.walk.specs.code.Levels.{level_at, level_to}
use Rattle.region.specs.code.Kept.{good_in, first_words}
use Rattle.theory.specs.Buffer.{over}
use Rattle.region.specs.code.Flags.{flag_with, count_in, flags_count, flags_after}
use Rattle.region.proofs.GoodLaws.{good_is, words_is}
use Rattle.region.proofs.ReadLaws.{view_read, is_level, sized_read}
use Rattle.sheet.specs.Limits.{most_positions, most_words}

-- one flag is a test as a number

pub flag_from : (good : ℕ → Bool) (v : ℕ) {r : Bool} {x : ℕ} → r ≡ good v → x ≡ from_bool r → x ≡ flag_by good v
unfolding flag_by
flag_from good v {r} {x} e q = q ∙ ap from_bool e ∙ by (good v)
  where
    by : (b : Bool) → from_bool b ≡ cond b 1 0
    by true = refl
    by false = refl

pub ruleset all_flags = (rules, filled_none, filled_more, filled_all, flag_from)

-- a sheet's flags

none_written : (s ranks b : List ℕ) → flags_count s (length b) ≡ 0 → b ≡ flags_after s ranks b
unfolding flags_after over
none_written s ranks b e = rw (e, tabulate_zero (flag_with (game_of s) (delay_of s) ranks) 0)

module _ (s : List ℕ) (rd : Result Layout Refusal) (e : answer_of rd ≡ read_answer s) where
  module _ (x : Refusal) (a : rd ≡ Err x) where
    pub refused_count : (room : ℕ) → 0 ≡ flags_count s room
    unfolding flags_count count_in
    refused_count room = rw (← e, a)

    pub refused_flags : (ranks b : List ℕ) → b ≡ flags_after s ranks b
    refused_flags ranks b = none_written s ranks b (sym (refused_count (length b)))

  module _ (l : Layout) (a : rd ≡ Ok l) (p : List ℕ) (ep : p ≡ part_at s l.positions) (v : Level)
      (made : v ≡ level_to (length p) l.start l.actions l.delay) where
    is : v ≡ level_at (length p) l.start l.actions l.delay
    is = is_level s rd e l a p ep v made

    answered : read_answer s ≡ accepted l
    answered = answer_accepted rd _ e l a

    pub start_read : v.start < most_positions
    start_read =
        let c = carries s l answered in
        let r = ranges s (read_is s l answered).0 in
        let h = controller_inside (positions_body s) (start_of s) r.own_start in
        let f = r.few_positions in
        let q : v.start ≡ start_of s = ap (λ (x : Level). x.start) is ∙ c.start in
        omega arith

    game_here : (g : List (List ℕ)) → g ≡ grid_at s l
        → view_of p g (part_at s l.moves) (firsts_of (part_at s l.moves)) l.start l.actions ≡ game_of s
    game_here g eg = view_read s rd e l a p ep g (part_at s l.moves) _ eg refl refl

    count_here : {n : ℕ} → n ≡ first_words v → n ≡ initial_words (game_of s) (delay_of s)
    count_here en =
        en
        ∙ ap first_words is
        ∙ words_is p (grid_at s l) (part_at s l.moves) (firsts_of (part_at s l.moves)) l.start l.actions l.delay
        ∙ rw (game_here (grid_at s l) refl, (carries s l answered).delay)

    pub small_count : (room : ℕ) {n : ℕ} → n ≡ first_words v → room < n → 0 ≡ flags_count s room
    unfolding flags_count count_in
    small_count room en h =
        let c = count_here en in rw (answered, lt-leb (initial_words (game_of s) (delay_of s)) room (omega arith))

    pub small_flags : (ranks b : List ℕ) {n : ℕ} → n ≡ first_words v → length b < n → b ≡ flags_after s ranks b
    small_flags ranks b en h = none_written s ranks b (sym (small_count (length b) en h))

    pub whole_count : (room : ℕ) {n : ℕ} → n ≡ first_words v → n ≤ room → n ≡ flags_count s room
    unfolding flags_count count_in
    whole_count room en h =
        let c = count_here en in rw (answered, le-leb (initial_words (game_of s) (delay_of s)) room (omega arith)) c

    -- the flags over the arrays are the game's
    flag_is : (g : List (List ℕ)) → g ≡ grid_at s l → (ranks : List ℕ) (w : ℕ)
        → flag_by (good_in p g v ranks) w ≡ flag_with (game_of s) (delay_of s) ranks w
    unfolding flag_by flag_with
    flag_is g eg ranks w =
        ap (λ b. cond b 1 0)
        (ap (λ x. good_in p g x ranks w) is
        ∙ good_is p g (part_at s l.moves) (firsts_of (part_at s l.moves)) l.start l.actions l.delay ranks w
        ∙ ap (λ x. good_with x l.delay ranks w) (game_here g eg)
        ∙ ap (λ x. good_with (game_of s) x ranks w) (carries s l answered).delay)

    module _ (ranks b : List ℕ) {n : ℕ} (en : n ≡ first_words v) (h : n ≤ length b) where
      pub front_flags : length (take n b) ≡ first_words v
      front_flags = length-take-le n b h ∙ en

      pub front_count : length (take n b) ≡ n
      front_count = length-take-le n b h

      module _ (g : List (List ℕ)) (t : List ℕ) (eg : g ≡ grid_at s l)
          (et : t ≡ tabulate (flag_by (good_in p g v ranks)) 0 (first_words v)) where
        t_length : length t ≡ n
        t_length = ap length et ∙ length_tabulate _ 0 (first_words v) ∙ sym en

        pub flags_length : length (t ++ drop n b) ≡ length b
        flags_length = let m = t_length in rw (length-append t (drop n b), length-drop n b) (omega arith)

        t_is : t ≡ tabulate (flag_with (game_of s) (delay_of s) ranks) 0 (flags_count s (length b))
        t_is =
            et
            ∙ ap (λ f. tabulate f 0 (first_words v)) (fun_ext (flag_is g eg ranks))
            ∙ ap (tabulate (flag_with (game_of s) (delay_of s) ranks) 0) (sym en ∙ whole_count (length b) en h)

        pub written : t ++ drop n b ≡ flags_after s ranks b
        unfolding flags_after over
        written = ap (λ x. t ++ drop x b) (sym t_length) ∙ ap (λ (x : List ℕ). x ++ drop (length x) b) t_is

pub ruleset flagging =
    (rules, refused_count, refused_flags, sized_read, start_read, small_count, small_flags, whole_count, front_flags, front_count, flags_length, written)

-- by ranks whose front is the final ranks the flags are theory's

module _ (G : Game) (legal : Legal G) (d : ℕ) (ranks : List ℕ) (front : take (arena G d).nodes ranks ≡ final_ranks (arena G d)) where
  same_rank : (k : ℕ) → k < (arena G d).nodes → kept (arena G d) ranks k ≡ kept (arena G d) (final_ranks (arena G d)) k
  unfolding kept_by fell
  same_rank k h = rw (← front, get_or-take (arena G d).nodes ranks k 0 h)

  good_same : (v : ℕ) → v < initial_words G d → good_with G d ranks v ≡ good_with G d (final_ranks (arena G d)) v
  unfolding good_with
  good_same v h =
      same_test _ _ (good_more G legal d _ _ v h (λ k n e. sym (same_rank k n) ∙ e)) (good_more G legal d _ _ v h (λ k n e. same_rank k n ∙ e))

  pub flags_final : tabulate (flag_with G d ranks) 0 (initial_words G d) ≡ flags G d
  unfolding flags flag_with flag_by
  flags_final = tabulate_same _ _ 0 (initial_words G d) (λ v h. rw (good_same v h))

-- for an accepted sheet, with room

pub few_words : (s : List ℕ) (l : Layout) → read_answer s ≡ accepted l → initial_words (game_of s) (delay_of s) ≤ most_words
unfolding initial_words game_of
few_words s l e = let r = ranges s (read_is s l e).0 in few_first_words (action_count s) (delay_of s) r.few_actions r.short_delay

pub words_counted : (s : List ℕ) (l : Layout) (room : ℕ) → read_answer s ≡ accepted l → initial_words (game_of s) (delay_of s) ≤ room
    → flags_count s room ≡ initial_words (game_of s) (delay_of s)
unfolding flags_count count_in
words_counted s l room e h = rw (e, le-leb _ _ h)

pub flags_theory : (s ranks b : List ℕ) (l : Layout) → read_answer s ≡ accepted l → initial_words (game_of s) (delay_of s) ≤ length b
    → take (arena (game_of s) (delay_of s)).nodes ranks ≡ final_ranks (arena (game_of s) (delay_of s))
    → flags_after s ranks b ≡ over (flags (game_of s) (delay_of s)) b
unfolding flags_after
flags_theory s ranks b l e h front =
    ap (λ n. over (tabulate (flag_with (game_of s) (delay_of s) ranks) 0 n) b) (words_counted s l (length b) e h)
    ∙ ap (λ x. over x b) (flags_final (game_of s) (legal_game s l e) (delay_of s) ranks front)
