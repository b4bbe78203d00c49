-- The lines of the listing, as document 01 prints them: one space between fields, a newline at the end. Assumes nothing.
use Rattle.std.specs.Prelude.{ℕ, cond, List, [], ◌++◌, eqb, length, get_or}
use Rattle.text.specs.Ascii.{ascii}
use Rattle.text.specs.Page.{texts_from}
use Rattle.text.specs.Fields.{word_text, set_text, field_text, node_text}

-- a line of one named number
unfoldable pub field_line : List ℕ → ℕ → List ℕ
field_line name n = field_text name n ++ ascii "\n"

-- "refused N"
unfoldable pub refused_line : ℕ → List ℕ
refused_line n = field_line (ascii "refused ") n

-- "losing M"
unfoldable pub losing_line : ℕ → List ℕ
losing_line m = field_line (ascii "losing ") m

-- "winning"
unfoldable pub winning_line : List ℕ
winning_line = ascii "winning\n"

-- "lag D positions P commands A", and the line "ends with ` reached N`"
unfoldable pub head_line : ℕ → ℕ → ℕ → ℕ → List ℕ
head_line d p a n =
    field_text (ascii "lag ") d ++
    (field_text (ascii " positions ") p ++ (field_text (ascii " commands ") a ++ field_line (ascii " reached ") n))

-- "start WORD", of the word v of l actions
unfoldable pub start_line : ℕ → ℕ → ℕ → List ℕ
start_line a l v = ascii "start " ++ (word_text a l v ++ ascii "\n")

-- "pair POSITION WORD allow ACTIONS", of the node k
unfoldable pub allow_line : ℕ → ℕ → ℕ → ℕ → List ℕ
allow_line a l k mask = node_text a l k ++ (ascii " allow " ++ (set_text a mask ++ ascii "\n"))

-- "pair POSITION WORD rank ROUND", of the node k
unfoldable pub rank_line : ℕ → ℕ → ℕ → ℕ → List ℕ
rank_line a l k rank = node_text a l k ++ field_line (ascii " rank ") rank

-- a line for each initial word with the flag 1
unfoldable pub start_entry : ℕ → ℕ → ℕ → ℕ → List ℕ
start_entry a l v flag = cond (eqb flag 1) (start_line a l v) []

unfoldable pub start_at : ℕ → ℕ → List ℕ → ℕ → List ℕ
start_at a l flags v = start_entry a l v (get_or flags v 0)

unfoldable pub start_lines : ℕ → ℕ → List ℕ → List ℕ
start_lines a l flags = texts_from (start_at a l flags) 0 (length flags)

-- a line for each node with a mask
unfoldable pub allow_entry : ℕ → ℕ → ℕ → ℕ → List ℕ
allow_entry a l k mask = cond (eqb mask 0) [] (allow_line a l k mask)

unfoldable pub allow_at : ℕ → ℕ → List ℕ → ℕ → List ℕ
allow_at a l masks k = allow_entry a l k (get_or masks k 0)

unfoldable pub allow_lines : ℕ → ℕ → List ℕ → List ℕ
allow_lines a l masks = texts_from (allow_at a l masks) 0 (length masks)

-- a line for each node with a rank
unfoldable pub rank_entry : ℕ → ℕ → ℕ → ℕ → List ℕ
rank_entry a l k rank = cond (eqb rank 0) [] (rank_line a l k rank)

unfoldable pub rank_at : ℕ → ℕ → List ℕ → ℕ → List ℕ
rank_at a l ranks k = rank_entry a l k (get_or ranks k 0)

unfoldable pub rank_lines : ℕ → ℕ → List ℕ → List ℕ
rank_lines a l ranks = texts_from (rank_at a l ranks) 0 (length ranks)
