-- Fields of the listing's lines: words, sets of actions, named numbers, nodes. A node is a position and a pending word of l
-- actions; its number is position * a ^ l + word (document 01's pair number). Assumes nothing.
use Rattle.std.specs.Prelude.{ℕ, ◌/◌, ◌%◌, ◌^◌, cond, List, [], ◌∷◌, ◌++◌, eqb}
use Rattle.theory.specs.Words.{digit}
use Rattle.theory.specs.Table.{bit}
use Rattle.text.specs.Ascii.{ascii}
use Rattle.text.specs.Page.{texts_from}
use Rattle.text.specs.Numbers.{glyph, decimal_of}

unfoldable pub digit_text : ℕ → ℕ → ℕ → ℕ → List ℕ
digit_text a l v i = glyph (digit a l v i) ∷ []

-- the word v of l actions out of a: digits without a gap, oldest first; "the empty word is `-`"
unfoldable pub word_text : ℕ → ℕ → ℕ → List ℕ
word_text a l v = cond (eqb l 0) (ascii "-") (texts_from (digit_text a l v) 0 l)

unfoldable pub action_text : ℕ → ℕ → List ℕ
action_text mask c = cond (bit mask c) (glyph c ∷ []) []

-- the actions below a that the mask has, rising, without a gap
unfoldable pub set_text : ℕ → ℕ → List ℕ
set_text a mask = texts_from (action_text mask) 0 a

-- a name, with its spaces, and a number
unfoldable pub field_text : List ℕ → ℕ → List ℕ
field_text name n = name ++ decimal_of n

-- "pair POSITION ", of the node k
unfoldable pub position_text : ℕ → ℕ → ℕ → List ℕ
position_text a l k = field_text (ascii "pair ") (k / a ^ l) ++ ascii " "

-- "pair POSITION WORD", of the node k
unfoldable pub node_text : ℕ → ℕ → ℕ → List ℕ
node_text a l k = position_text a l k ++ word_text a l (k % a ^ l)
