-- RULES 11 b to d (document 01, Program): what is printed for an answer of Run, the names and the cells, as bytes.
use Rattle.std.specs.Prelude.{cond, List, [], ◌∷◌, ◌++◌, ℕ, zero, suc, ◌+◌, ◌/◌, ◌%◌, ltb, take, drop, ℤ, pos, negsuc, Result, Ok, Err}
use Rattle.syntax.specs.Bytes.{bytes}
use Rattle.syntax.specs.Known.{Entry}
use Rattle.answers.specs.declared.Failure.{Failure}
use Rattle.answers.specs.declared.Failure.TheVariants.{Refused, Faulted}
use Rattle.answers.specs.declared.Ran.{Ran}
use Rattle.answers.specs.declared.Ran.TheVariants.{Passed, Rerun}

-- ---- numbers

-- the last k digits of a number, without zeros in front
unfoldable pub digits : ℕ → ℕ → List ℕ
digits zero n = []
digits (suc k) n = cond (ltb n 10) ((48 + n) ∷ []) (digits k (n / 10) ++ ((48 + n % 10) ∷ []))

-- a word of 32 bits has at most ten
abbrev pub decimal : ℕ → List ℕ
decimal n = digits 10 n

-- a cell, or v
unfoldable pub signed : ℤ → List ℕ
signed (pos n) = decimal n
signed (negsuc n) = bytes "-" ++ decimal (suc n)

-- ---- lines

abbrev pub newline : List ℕ
newline = 10 ∷ []

-- "the result with its two counts"
abbrev pub counted : List ℕ → ℕ → ℕ → List ℕ
counted word pairs cells = word ++ (decimal pairs ++ (bytes " " ++ (decimal cells ++ newline)))

-- "`! refused` and its three numbers"
abbrev pub refusal : ℕ → ℕ → ℤ → List ℕ
refusal number line v = bytes "! refused " ++ (decimal number ++ (bytes " " ++ (decimal line ++ (bytes " " ++ (signed v ++ newline)))))

-- the comment line; a fault is a refusal with its v, any other refusal has v 0
unfoldable pub comment : Result Ran Failure → List ℕ
comment (Ok (Passed c)) = counted (bytes "! passed ") c.pairs c.cells
comment (Ok (Rerun c)) = counted (bytes "! rerun ") c.pairs c.cells
comment (Err (Faulted f)) = refusal f.number f.line f.v
comment (Err (Refused e)) = refusal e.number e.line (pos 0)

-- values parted by commas
unfoldable pub later : List ℤ → List ℕ
later [] = []
later (v ∷ vs) = bytes "," ++ (signed v ++ later vs)

unfoldable pub values : List ℤ → List ℕ
values [] = []
values (v ∷ vs) = signed v ++ later vs

abbrev pub data_line : List ℕ → List ℤ → List ℕ
data_line name vs = bytes "data " ++ (name ++ (bytes " /" ++ (values vs ++ (bytes "/" ++ newline))))

-- "then a data line per name", with "every cell" of the name
unfoldable pub data_lines : List Entry → List ℤ → List ℕ
data_lines [] m = []
data_lines (e ∷ es) m = data_line e.name (take e.size (drop e.first m)) ++ data_lines es m

-- "a comment line, then a data line per name"; "a refusal prints only ..."
unfoldable pub report : Result Ran Failure → List Entry → List ℤ → List ℕ
report (Ok r) t m = comment (Ok r) ++ data_lines t m
report (Err e) t m = comment (Err e)
