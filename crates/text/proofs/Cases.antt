-- Texts computed from the definitions: the listing that document 01 prints, and what it leaves out. Assumes nothing.
use mathlib.Core.Path.{◌≡◌, refl}
use mathlib.Core.List.{[], ◌∷◌, ◌++◌}
use Rattle.text.specs.Ascii.{ascii}
use Rattle.text.specs.Numbers.{shorts_text}
use Rattle.text.specs.Lines.{losing_line, refused_line, winning_line, head_line, allow_line, rank_line, start_lines, allow_lines, rank_lines}
use Rattle.text.proofs.Computing.{text_computes}

-- the guess yard at lag 1
guess : head_line 1 4 2 4 ++ (losing_line 1 ++ rank_lines 2 0 (0 ∷ 0 ∷ 2 ∷ 1 ∷ []))
    ≡ ascii "lag 1 positions 4 commands 2 reached 4\nlosing 1\npair 2 - rank 2\npair 3 - rank 1\n"
unfolding text_computes
guess = refl

-- the sorting hall at lag 2
hall : head_line 2 7 2 7 ++ (winning_line ++ (start_lines 2 1 (1 ∷ 1 ∷ []) ++ allow_lines 2 1 (1 ∷ 1 ∷ 2 ∷ 2 ∷ 3 ∷ 0 ∷ 0 ∷ 3 ∷ 0 ∷ [])))
    ≡ ascii "lag 2 positions 7 commands 2 reached 7\nwinning\nstart 0\nstart 1\npair 0 0 allow 0\npair 0 1 allow 0\npair 1 0 allow 1\npair 1 1 allow 1\npair 2 0 allow 01\npair 3 1 allow 01\n"
unfolding text_computes
hall = refl

-- the last node of 256 positions and 27 actions, whose word is of two; the greatest rank; two bytes
large : rank_line 27 2 186623 65535 ++ (allow_line 27 2 186000 1073741827 ++ (refused_line 10 ++ shorts_text (16385 ∷ [])))
    ≡ ascii "pair 255 qq rank 65535\npair 255 3o allow 01\nrefused 10\n" ++ (1 ∷ 64 ∷ [])
unfolding text_computes
large = refl
