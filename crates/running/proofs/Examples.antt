-- The examples of document 01, and of document 02, Points 1 to 3, 5 and 6 (RULES 13 says where their rules are told), as rows of one table: what the
-- definitions give, and what the documents say. Loops are given by their texts.
use mathlib.Core.Path.{◌≡◌, refl}
use mathlib.Core.List.{List, [], ◌∷◌, ◌++◌, map}
use Prim.Native.Nat.{ℕ, ◌+◌, ◌-◌}
use Prim.Native.String.{String}
use native.Mathlib.Decide.{ℕ_discrete, dec_lt}
use lib.IntN.{ℤ, pos, neg_ℤ}
use lib.ListN.{length, replicate}
use Rattle.int32.specs.Integers.{word, value, wrap, sum, difference, negation, product, greater, larger, quotient, rdiv, by_signs, even_of, nearer, nearest, related}
use Rattle.rules.specs.Choose.{pick, below, put}
use Rattle.rules.specs.Cells.{cell_of, listed}
use Rattle.rules.specs.Owner.{owner}
use Rattle.rules.specs.Blocks.{block_start, singles, blocks, tested}
use Rattle.rules.specs.Log.{only, written}
use Rattle.rules.specs.Decide.{change, either?, both?, not?, find as find?, kind?, has?, exposed?, ordinary?, over, one?, two?}
use Rattle.rules.specs.Marks.{mark1?, mark2?, mark4?, weight, marks}
use Rattle.rules.specs.Obstacles.{clash?, stale?, late?, mixed?, obstacle_at?, obstructed?}
use Rattle.rules.specs.Steps.{go_on, step, steps, through, through_all, run_out, run_on, trial, is_fault?, stopped?, faulty?}
use Rattle.rules.specs.Serial.{along, from, serial, finished?}
use Rattle.rules.specs.Merge.{highest, updated, add, total, join_all, block, gathered, merged, touches, count, pairs, written_cells}
use Rattle.rules.specs.Answer.{viewed, look, trial_passes?, serial_passes?, again, run_by, run, settled_by, settled}
use Rattle.syntax.specs.Bytes.{bytes, lines, token_size, tokens_after, trimmed}
use Rattle.syntax.specs.Grammar.{number_from, show, show_terms, show_term, show_factors, show_factor, show_ref}
use Rattle.syntax.specs.Known.{find, then_do, values, class_in, after}
use Rattle.syntax.specs.Conditions.{mentions, in_terms, in_term, in_factors, in_factor, in_ref, in_line, names, limits, stands}
use Rattle.syntax.specs.Reader.{read_expr, read_terms, read_term, read_factors, read_factor, read_ref, read_more, read_declare, read_give, read_clauses, read_directive, read_loop, read_assign, read_when, read_end, read_start, read_line, parse}
use Rattle.syntax.specs.Flaws.{flaw_number}
use Rattle.syntax.specs.Text.{Verdict, refused, good, judged, judge_line, judge, read, loaded}
use Rattle.syntax.specs.Meaning.{no_zeros, alike, summand, multiplicand, alone, rival, is_update, remainder, located, divides, called, eval, eval_terms, eval_term, eval_factors, eval_factor, place, assigned, exec, class_of, loop_of, partition_of}
use Rattle.syntax.proofs.Quoted.{text}
use Rattle.std.specs.Prelude.{Result, Ok, Err}
use Rattle.answers.specs.declared.Failure.{Failure}
use Rattle.answers.specs.declared.Failure.TheVariants.{Faulted}
use Rattle.answers.specs.declared.Ran.{Ran}
use Rattle.answers.specs.declared.Ran.TheVariants.{Passed, Rerun}
use Rattle.answers.specs.declared.Refusal.{Refusal}
use Rattle.answers.specs.declared.Sizes.{Sizes}
use Rattle.answers.specs.Answers.{counted, fault_at, refuse, fail, check_of, cells_loaded, view_shown, answered, run_of, cells_run}
use Rattle.int32.specs.Integers as integers
use Rattle.rules.specs.Merge as merge
use Rattle.syntax.specs.Bytes as bytes'

-- ---- texts

-- `a(i) = a(i) + 1`, 3 iterations, shared
pub rising : List ℕ
rising = text ("integer a(3)" ∷ "!$omp parallel do num_threads(2)" ∷ "do i = 1, 3" ∷ "a(i) = a(i) + 1" ∷ "end do" ∷ [])

-- `a(1) = i`, i = 1, 2: shared, and lastprivate
pub writing : List ℕ
writing = text ("integer a(1)" ∷ "!$omp parallel do num_threads(2)" ∷ "do i = 1, 2" ∷ "a(1) = i" ∷ "end do" ∷ [])

pub writing_last : List ℕ
writing_last = text ("integer a(1)" ∷ "!$omp parallel do num_threads(2) lastprivate(a)" ∷ "do i = 1, 2" ∷ "a(1) = i" ∷ "end do" ∷ [])

-- `s = s + i`, i = 1 to 4, s reduction, 5 at entry
pub adding : List ℕ
adding =
    text ("integer s" ∷ "data s /5/" ∷ "!$omp parallel do num_threads(2) reduction(+:s)" ∷ "do i = 1, 4" ∷ "s = s + i" ∷ "end do" ∷ [])

-- `do i = 1, 0`
pub idle : List ℕ
idle = text ("integer a" ∷ "!$omp parallel do num_threads(2)" ∷ "do i = 1, 0" ∷ "a = i" ∷ "end do" ∷ [])

-- "Lastprivate z: iteration 1 reads it, iteration 2 writes it"
pub reading : List ℕ
reading =
    text (
    "integer z, a" ∷ "data z /3/" ∷ "!$omp parallel do num_threads(2) lastprivate(z)" ∷ "do i = 1, 2"
    ∷ "if (i == 1) then" ∷ "a = z" ∷ "else" ∷ "z = 5" ∷ "end if" ∷ "end do" ∷ [])

-- "Shared k is 9; iteration 1 sets it to 2, iteration 2 writes a(k) of 4 cells"
pub aiming : List ℕ
aiming =
    text (
    "integer k, a(4)" ∷ "data k /9/" ∷ "!$omp parallel do num_threads(2)" ∷ "do i = 1, 2"
    ∷ "if (i == 1) then" ∷ "k = 2" ∷ "else" ∷ "a(k) = 1" ∷ "end if" ∷ "end do" ∷ [])

-- the text under Program
pub scattering : List ℕ
scattering =
    text (
    "integer a(4), k(4)" ∷ "data k /2, 1, 4, 3/" ∷ "!$omp parallel do num_threads(2)" ∷ "do i = 1, 4" ∷ "a(k(i)) = 10 * i" ∷ "end do" ∷ [])

-- Document 02, Point 1: a loop of these names, bounds and statements over two processors, s a reduction
abbrev netting : String → String → List String → List ℕ
netting names bounds body = text (names ∷ "!$omp parallel do num_threads(2) reduction(+:s)" ∷ bounds ∷ (body ++ ("end do" ∷ [])))

-- Document 02, Point 3: a loop of these names, clauses, bounds and statements
abbrev dealing : String → String → String → List String → List ℕ
dealing names clauses bounds body =
    bytes names ++ (10 ∷ (bytes "!$omp parallel do " ++ (bytes clauses ++ (10 ∷ text (bounds ∷ (body ++ ("end do" ∷ [])))))))

-- a recurrence, which meets between neighbouring iterations
abbrev recurring : String → List ℕ
recurring clauses = dealing "integer a(5)" clauses "do i = 2, 5" ("a(i) = a(i - 1)" ∷ [])

-- iteration 1 writes z and iteration 2 reads it, or the other way round
abbrev written_first : String → List ℕ
written_first clauses = dealing "integer z, y" clauses "do i = 1, 2" ("if (i == 1) then" ∷ "z = 7" ∷ "else" ∷ "y = z" ∷ "end if" ∷ [])

abbrev read_first : String → List ℕ
read_first clauses = dealing "integer z, y" clauses "do i = 1, 2" ("if (i == 1) then" ∷ "y = z" ∷ "else" ∷ "z = 7" ∷ "end if" ∷ [])

-- an update and an ordinary access in one block
abbrev mixing : List ℕ
mixing = dealing "integer s, t" "num_threads(1) schedule(static) reduction(+:s)" "do i = 1, 2" ("s = s + i" ∷ "t = s" ∷ [])

-- the clause's words as names
abbrev wording : List ℕ
wording =
    dealing "integer schedule, static" "shared(schedule) num_threads(2) schedule(static) lastprivate(static)" "do i = 1, 1"
    ("static = schedule" ∷ [])

-- Document 02, Point 5: z in both clauses, and its own value read and written
abbrev both : String
both = "num_threads(2) firstprivate(z) lastprivate(z)"

abbrev lessening : String → List ℕ
lessening bounds = dealing "integer z" both bounds ("z = z - 1" ∷ [])

-- the clause's word as a name
abbrev wording_first : List ℕ
wording_first =
    dealing "integer firstprivate" "firstprivate(firstprivate) lastprivate(firstprivate) num_threads(2)" "do i = 1, 1" ("firstprivate = i" ∷ [])

-- Document 02, Point 6: loops of these names, bounds and statements over two processors, where x is a product's, and a maximum's
abbrev weighing : String → String → List String → List ℕ
weighing names bounds body = dealing names "num_threads(2) reduction(*:x)" bounds body

abbrev peaking : String → String → List String → List ℕ
peaking names bounds body = dealing names "num_threads(2) reduction(max:x)" bounds body

-- a text, and blanks up to n bytes
abbrev up_to : ℕ → List ℕ → List ℕ
up_to n t = t ++ replicate (n - length t) 32

-- ---- the table

-- the answers
abbrev sizes : ℕ → ℕ → Result Sizes Refusal
sizes n p = Ok (record { cells = n; processors = p })

abbrev passes : ℕ → ℕ → Result Ran Failure
passes a b = Ok (Passed (counted a b))

abbrev reruns : ℕ → ℕ → Result Ran Failure
reruns a b = Ok (Rerun (counted a b))

abbrev faults : ℕ → ℕ → ℤ → Result Ran Failure
faults n k x = Err (Faulted (fault_at n k x))

-- a number; the first index of a block and the one after its last; what Check answers; the words of a view; what Run answers and the cells left
pub data Shown : Type 0 where
  number : ℤ → Shown
  indices : ℕ → ℕ → Shown
  checks : Result Sizes Refusal → Shown
  views : List ℕ → Shown
  ends : Result Ran Failure → List ℤ → Shown

pub record Row : Type 0 where
  pub got : Shown
  pub want : Shown

abbrev row : Shown → Shown → Row
row a b = record { got = a; want = b }

abbrev minus : ℕ → ℤ
minus n = neg_ℤ (pos n)

abbrev checked : List ℕ → Shown
checked t = checks (check_of (read t))

-- Look and Run, with a workspace of 8,192 words; the cells lent as Load fills n of them
abbrev lent : List ℕ → ℕ → List ℤ
lent t n = cells_loaded (read t) (replicate n (minus 1))

abbrev looked : List ℕ → ℕ → List ℕ → Shown
looked t n ps = views (view_shown (read t) (lent t n) 8192 ps (replicate (n + n) 7))

abbrev looked_on : List ℕ → List ℤ → List ℕ → Shown
looked_on t m ps = views (view_shown (read t) m 8192 ps (replicate (length m + length m) 7))

abbrev ran_in : ℕ → List ℕ → List ℤ → List ℕ → Shown
ran_in w t m ps = ends (run_of (read t) m w ps) (cells_run (read t) m w ps)

abbrev ran_on : List ℕ → List ℤ → List ℕ → Shown
ran_on = ran_in 8192

abbrev ran : List ℕ → ℕ → List ℕ → Shown
ran t n ps = ran_on t (lent t n) ps

-- Run by the step rule under its schedule
abbrev by_steps : Verdict → List ℤ → List ℕ → Shown
by_steps (refused f k) m ps = ends (fail (flaw_number f) k) m
by_steps (good s) m ps = let e = run (loop_of s m) (partition_of s) ps in ends (answered s e.answer) e.cells

abbrev stepped : List ℕ → ℕ → List ℕ → Shown
stepped t n ps = by_steps (read t) (lent t n) ps

-- Run of a statement or two over these bounds, on s alone
abbrev net : String → List String → ℤ → Shown
net bounds body z = ran_on (netting "integer s" bounds body) (z ∷ []) []

-- Run of a statement, twice, over a product's x and a, b, c; over a maximum's x and a; once over x and a(2), all shared
abbrev weighed : String → List ℤ → Shown
weighed statement m = ran_on (weighing "integer x, a, b, c" "do i = 1, 2" (statement ∷ [])) m (1 ∷ [])

abbrev peaked : String → List ℤ → Shown
peaked statement m = ran_on (peaking "integer x, a" "do i = 1, 2" (statement ∷ [])) m (1 ∷ [])

abbrev larger_of : String → List ℕ
larger_of statement = dealing "integer x, a(2)" "num_threads(2)" "do i = 1, 1" (statement ∷ [])

abbrev compared : String → Shown
compared statement = ran_on (larger_of statement) (pos 0 ∷ pos 0 ∷ pos 0 ∷ []) []

-- cells of x, a, b and c
abbrev four : ℕ → ℕ → ℕ → ℕ → List ℤ
four x a b c = pos x ∷ pos a ∷ pos b ∷ pos c ∷ []

-- cells before the recurrence, and after it
abbrev fives : List ℤ
fives = pos 4 ∷ pos 5 ∷ pos 5 ∷ pos 5 ∷ pos 5 ∷ []

abbrev fours : List ℤ
fours = pos 4 ∷ pos 4 ∷ pos 4 ∷ pos 4 ∷ pos 4 ∷ []

pub rows : List Row
rows =
    row (number (quotient (minus 7) (pos 2))) (number (minus 3))
    ∷ row (number (rdiv (minus 7) (pos 2))) (number (minus 4))
    ∷ row (number (rdiv (pos 7) (pos 2))) (number (pos 4))
    ∷ row (number (rdiv (pos 1) (pos 3))) (number (pos 0))
    ∷ row (number (sum (pos 2147483647) (pos 1))) (number (minus 2147483648))
    ∷ row (indices (block_start 5 2 0) (block_start 5 2 1)) (indices 0 2)
    ∷ row (indices (block_start 5 2 1) (block_start 5 2 2)) (indices 2 5)
    ∷ row (indices (block_start 1 2 0) (block_start 1 2 1)) (indices 0 0)
    ∷ row (indices (block_start 1 2 1) (block_start 1 2 2)) (indices 0 1)
    ∷ row (ran rising 3 (1 ∷ 0 ∷ 0 ∷ [])) (ends (passes 3 3) (pos 1 ∷ pos 1 ∷ pos 1 ∷ []))
    ∷ row (stepped rising 3 (1 ∷ 0 ∷ 0 ∷ [])) (ends (passes 3 3) (pos 1 ∷ pos 1 ∷ pos 1 ∷ []))
    ∷ row (ran writing 1 []) (ends (reruns 2 1) (pos 2 ∷ []))
    ∷ row (stepped writing 1 []) (ends (reruns 2 1) (pos 2 ∷ []))
    ∷ row (ran writing_last 1 (1 ∷ [])) (ends (passes 2 1) (pos 2 ∷ []))
    ∷ row (stepped writing_last 1 (1 ∷ [])) (ends (passes 2 1) (pos 2 ∷ []))
    ∷ row (looked writing 1 (1 ∷ 0 ∷ [])) (views (1 ∷ 1 ∷ []))
    ∷ row (looked writing 1 (0 ∷ 1 ∷ [])) (views (2 ∷ 1 ∷ []))
    ∷ row (ran adding 1 (1 ∷ 0 ∷ 1 ∷ [])) (ends (passes 4 1) (pos 15 ∷ []))
    ∷ row (stepped adding 1 (1 ∷ 0 ∷ 1 ∷ [])) (ends (passes 4 1) (pos 15 ∷ []))
    ∷ row (ran idle 1 (0 ∷ [])) (ends (passes 0 0) (pos 0 ∷ []))
    ∷ row (stepped idle 1 (0 ∷ [])) (ends (passes 0 0) (pos 0 ∷ []))
    ∷ row (ran reading 2 []) (ends (reruns 2 2) (pos 5 ∷ pos 3 ∷ []))
    ∷ row (stepped reading 2 []) (ends (reruns 2 2) (pos 5 ∷ pos 3 ∷ []))
    ∷ row (ran aiming 5 (1 ∷ [])) (ends (reruns 2 2) (pos 2 ∷ pos 0 ∷ pos 1 ∷ pos 0 ∷ pos 0 ∷ []))
    ∷ row (stepped aiming 5 (1 ∷ [])) (ends (reruns 2 2) (pos 2 ∷ pos 0 ∷ pos 1 ∷ pos 0 ∷ pos 0 ∷ []))
    ∷ row (ran scattering 8 []) (ends (passes 4 4) (pos 20 ∷ pos 10 ∷ pos 40 ∷ pos 30 ∷ pos 2 ∷ pos 1 ∷ pos 4 ∷ pos 3 ∷ []))
    -- document 02, Point 1
    ∷ row (ran_on (netting "integer s" "do i = 1, 4" ("s = s - i" ∷ [])) (pos 5 ∷ []) (1 ∷ 0 ∷ 1 ∷ [])) (ends (passes 4 1) (minus 5 ∷ []))
    ∷ row (by_steps (read (netting "integer s" "do i = 1, 4" ("s = s - i" ∷ []))) (pos 5 ∷ []) (1 ∷ 0 ∷ 1 ∷ [])) (ends (passes 4 1) (minus 5 ∷ []))
    ∷ row (ran_on (netting "integer s, p, q" "do i = 1, 2" ("s = s - p + q" ∷ [])) (pos 1 ∷ pos 10 ∷ pos 3 ∷ []) [])
    (ends (passes 2 1) (minus 13 ∷ pos 10 ∷ pos 3 ∷ []))
    ∷ row (ran_on (netting "integer s, p" "do i = 1, 1" ("s = s - p" ∷ [])) (pos 5 ∷ minus 2147483648 ∷ []) [])
    (ends (passes 1 1) (minus 2147483643 ∷ minus 2147483648 ∷ []))
    ∷ row (ran_on (netting "integer s, q, p" "do i = 1, 1" ("s = s - q/p" ∷ [])) (pos 0 ∷ minus 2147483648 ∷ pos 2 ∷ []) [])
    (ends (passes 1 1) (pos 1073741824 ∷ minus 2147483648 ∷ pos 2 ∷ []))
    ∷ row (ran_on (netting "integer s(1)" "do i = 1, 2" ("s(01) = s(1) - 2" ∷ [])) (pos 0 ∷ []) []) (ends (passes 2 1) (minus 4 ∷ []))
    ∷ row (net "do i = 1, 2" ("s = -s - 1" ∷ []) (pos 5)) (ends (reruns 2 1) (pos 5 ∷ []))
    ∷ row (net "do i = 1, 2" ("s = (s) - 1" ∷ []) (pos 5)) (ends (reruns 2 1) (pos 3 ∷ []))
    ∷ row (net "do i = 1, 2" ("s = 1 - s" ∷ []) (pos 5)) (ends (reruns 2 1) (pos 5 ∷ []))
    ∷ row (net "do i = 1, 2" ("s = s * 1 - 2" ∷ []) (pos 5)) (ends (reruns 2 1) (pos 1 ∷ []))
    ∷ row (net "do i = 1, 1" ("s = s - s" ∷ []) (pos 5)) (ends (reruns 1 1) (pos 0 ∷ []))
    ∷ row (ran_on (netting "integer s, t" "do i = 1, 1" ("s = s - 1" ∷ "t = s" ∷ [])) (pos 5 ∷ pos 0 ∷ []) []) (ends (reruns 2 2) (pos 4 ∷ pos 4 ∷ []))
    -- document 02, Point 2
    ∷ row (number (rdiv (pos 5) (pos 2))) (number (pos 2))
    ∷ row (number (rdiv (minus 5) (pos 2))) (number (minus 2))
    ∷ row (number (rdiv (pos 1) (pos 2))) (number (pos 0))
    ∷ row (number (rdiv (minus 1) (pos 2))) (number (pos 0))
    ∷ row (number (rdiv (pos 3) (pos 2))) (number (pos 2))
    ∷ row (number (rdiv (pos 5) (minus 2))) (number (minus 2))
    ∷ row (number (rdiv (pos 1073741824) (minus 2147483648))) (number (pos 0))
    ∷ row (number (rdiv (pos 2147483647) (pos 2))) (number (pos 1073741824))
    ∷ row (number (rdiv (pos 2147483645) (pos 2))) (number (pos 1073741822))
    ∷ row (number (rdiv (minus 2147483648) (minus 1))) (number (minus 2147483648))
    ∷ row (net "do i = 1, 1" ("s = rdiv(s, 2)" ∷ []) (minus 5)) (ends (passes 1 1) (minus 2 ∷ []))
    -- document 02, Point 3: the word by blocks, for one processor and two, under schedules of both
    ∷ row (ran_on (recurring "num_threads(1) schedule(static)") fives (0 ∷ 0 ∷ [])) (ends (passes 4 4) fours)
    ∷ row (ran_on (recurring "num_threads(2) schedule(static)") fives (1 ∷ 0 ∷ [])) (ends (reruns 4 4) fours)
    ∷ row (ran_on (recurring "num_threads(1)") fives []) (ends (reruns 4 4) fours)
    ∷ row (by_steps (read (recurring "num_threads(1) schedule(static)")) fives (0 ∷ 0 ∷ [])) (ends (passes 4 4) fours)
    ∷ row (by_steps (read (recurring "num_threads(2) schedule(static)")) fives (1 ∷ 0 ∷ [])) (ends (reruns 4 4) fours)
    -- marks by block: written and then read, read and then written
    ∷ row (looked_on (written_first "num_threads(1) schedule(static)") (pos 3 ∷ pos 4 ∷ []) (0 ∷ 0 ∷ 0 ∷ [])) (views (7 ∷ 1 ∷ 4 ∷ 0 ∷ []))
    ∷ row (looked_on (written_first "num_threads(1)") (pos 3 ∷ pos 4 ∷ []) (0 ∷ 0 ∷ 0 ∷ [])) (views (7 ∷ 3 ∷ 4 ∷ 0 ∷ []))
    ∷ row (looked_on (read_first "num_threads(1) schedule(static)") (pos 3 ∷ pos 4 ∷ []) (0 ∷ 0 ∷ 0 ∷ 0 ∷ [])) (views (7 ∷ 5 ∷ 3 ∷ 1 ∷ []))
    ∷ row (looked_on (read_first "num_threads(1)") (pos 3 ∷ pos 4 ∷ []) (0 ∷ 0 ∷ 0 ∷ 0 ∷ [])) (views (7 ∷ 3 ∷ 3 ∷ 1 ∷ []))
    -- a lastprivate cell as an earlier iteration of the block left it; in another block it is the entry value, and an obstacle
    ∷ row (ran_on (written_first "schedule(static) num_threads(1) lastprivate(z)") (pos 3 ∷ pos 4 ∷ []) []) (ends (passes 2 2) (pos 7 ∷ pos 7 ∷ []))
    ∷ row (ran_on (written_first "schedule(static) num_threads(2) lastprivate(z)") (pos 3 ∷ pos 4 ∷ []) (1 ∷ [])) (ends (reruns 2 2) (pos 7 ∷ pos 7 ∷ []))
    ∷ row (looked_on (written_first "schedule(static) num_threads(1) lastprivate(z)") (pos 3 ∷ pos 4 ∷ []) (0 ∷ 0 ∷ 0 ∷ 0 ∷ []))
    (views (3 ∷ 1 ∷ 7 ∷ 1 ∷ []))
    -- n below P: every iteration is a block of its own
    ∷ row (ran_on (written_first "num_threads(8) schedule(static)") (pos 3 ∷ pos 4 ∷ []) []) (ends (reruns 2 2) (pos 7 ∷ pos 7 ∷ []))
    -- with one processor only a reduction cell that is updated and accessed otherwise is in the way
    ∷ row (ran_on mixing (pos 5 ∷ pos 0 ∷ []) []) (ends (reruns 4 2) (pos 8 ∷ pos 8 ∷ []))
    -- write counts by iteration
    ∷ row (ran_on (dealing "integer z" "num_threads(2) schedule(static) lastprivate(z)" "do i = 1, 6" ("z = i" ∷ [])) (pos 0 ∷ []) (1 ∷ 0 ∷ []))
    (ends (passes 6 1) (pos 6 ∷ []))
    -- the clause: twice, with another word, with more, empty; its words as names
    ∷ row (checked (recurring "num_threads(2) SCHEDULE ( Static ) shared(a)")) (checks (sizes 5 2))
    ∷ row (checked (recurring "schedule(static) num_threads(2) schedule(static)")) (checks (refuse 2 2))
    ∷ row (checked (recurring "num_threads(2) schedule(dynamic)")) (checks (refuse 2 2))
    ∷ row (checked (recurring "num_threads(2) schedule(static, 1)")) (checks (refuse 2 2))
    ∷ row (checked (recurring "num_threads(2) schedule()")) (checks (refuse 2 2))
    ∷ row (checked wording) (checks (sizes 2 2))
    -- document 02, Point 5: an old value read early and overwritten later passes, whichever step comes first; with lastprivate alone it does not
    ∷ row (ran_on (read_first both) (pos 3 ∷ pos 4 ∷ []) []) (ends (passes 2 2) (pos 7 ∷ pos 3 ∷ []))
    ∷ row (ran_on (read_first both) (pos 3 ∷ pos 4 ∷ []) (1 ∷ [])) (ends (passes 2 2) (pos 7 ∷ pos 3 ∷ []))
    ∷ row (by_steps (read (read_first both)) (pos 3 ∷ pos 4 ∷ []) (1 ∷ [])) (ends (passes 2 2) (pos 7 ∷ pos 3 ∷ []))
    ∷ row (ran_on (read_first "num_threads(2) lastprivate(z)") (pos 3 ∷ pos 4 ∷ []) []) (ends (reruns 2 2) (pos 7 ∷ pos 3 ∷ []))
    -- a lower iteration writes and a higher reads, whichever step comes first
    ∷ row (ran_on (written_first both) (pos 3 ∷ pos 4 ∷ []) []) (ends (reruns 2 2) (pos 7 ∷ pos 7 ∷ []))
    ∷ row (ran_on (written_first both) (pos 3 ∷ pos 4 ∷ []) (1 ∷ 1 ∷ [])) (ends (reruns 2 2) (pos 7 ∷ pos 7 ∷ []))
    ∷ row (by_steps (read (written_first both)) (pos 3 ∷ pos 4 ∷ []) (1 ∷ 1 ∷ [])) (ends (reruns 2 2) (pos 7 ∷ pos 7 ∷ []))
    -- read and then written by one iteration, and by two
    ∷ row (ran_on (lessening "do i = 1, 1") (pos 5 ∷ []) []) (ends (passes 1 1) (pos 4 ∷ []))
    ∷ row (ran_on (lessening "do i = 1, 2") (pos 5 ∷ []) []) (ends (reruns 2 1) (pos 3 ∷ []))
    -- blocks; the cell at entry while it is written privately
    ∷ row (ran_on (written_first "schedule(static) num_threads(1) lastprivate(z) firstprivate(z)") (pos 3 ∷ pos 4 ∷ []) [])
    (ends (passes 2 2) (pos 7 ∷ pos 7 ∷ []))
    ∷ row (ran_on (written_first "schedule(static) num_threads(2) lastprivate(z) firstprivate(z)") (pos 3 ∷ pos 4 ∷ []) (1 ∷ 1 ∷ []))
    (ends (reruns 2 2) (pos 7 ∷ pos 7 ∷ []))
    ∷ row (looked_on (read_first both) (pos 3 ∷ pos 4 ∷ []) (1 ∷ [])) (views (3 ∷ 1 ∷ 4 ∷ 0 ∷ []))
    -- 4,352 + 64 × 2 + 2 × (4 + 8 × 2) words are enough, one fewer is not
    ∷ row (ran_in 4520 (read_first both) (pos 3 ∷ pos 4 ∷ []) []) (ends (passes 2 2) (pos 7 ∷ pos 3 ∷ []))
    ∷ row (ran_in 4519 (read_first both) (pos 3 ∷ pos 4 ∷ []) []) (ends (fail 6 0) (pos 3 ∷ pos 4 ∷ []))
    -- both clauses in either order, with other names beside; `firstprivate` alone, with a third clause, twice; its word as a name
    ∷ row (checked (read_first "LASTPRIVATE(y, z) num_threads(2) FirstPrivate ( z )")) (checks (sizes 2 2))
    ∷ row (checked (read_first "num_threads(2) firstprivate(z)")) (checks (refuse 3 2))
    ∷ row (checked (read_first "num_threads(2) firstprivate(z) shared(z)")) (checks (refuse 3 2))
    ∷ row (checked (read_first "num_threads(2) firstprivate(z) lastprivate(z) reduction(+:z)")) (checks (refuse 3 2))
    ∷ row (checked (read_first "num_threads(2) firstprivate(z, z) lastprivate(z)")) (checks (refuse 3 2))
    ∷ row (checked (read_first "num_threads(9) lastprivate(z) firstprivate(y)")) (checks (refuse 3 2))
    ∷ row (checked (read_first "num_threads(9) lastprivate(z) firstprivate(z)")) (checks (refuse 4 2))
    ∷ row (checked (read_first "num_threads(2) lastprivate(z) firstprivate()")) (checks (refuse 2 2))
    ∷ row (checked wording_first) (checks (sizes 1 2))
    -- document 02, Point 6: products and maxima, under one order of steps and by the step rule
    ∷ row (ran_on (weighing "integer x" "do i = 1, 5" ("x = x * i" ∷ [])) (pos 3 ∷ []) (1 ∷ 0 ∷ [])) (ends (passes 5 1) (pos 360 ∷ []))
    ∷ row (by_steps (read (weighing "integer x" "do i = 1, 5" ("x = x * i" ∷ []))) (pos 3 ∷ []) (1 ∷ 0 ∷ [])) (ends (passes 5 1) (pos 360 ∷ []))
    ∷ row (ran_on (weighing "integer x" "do i = 1, 2" ("x = x * 50000" ∷ [])) (pos 3 ∷ []) []) (ends (passes 2 1) (minus 1089934592 ∷ []))
    ∷ row (ran_on (peaking "integer x, a(3)" "do i = 1, 3" ("x = max(x, a(i))" ∷ [])) (minus 9 ∷ minus 7 ∷ minus 3 ∷ minus 5 ∷ []) (1 ∷ []))
    (ends (passes 3 1) (minus 3 ∷ minus 7 ∷ minus 3 ∷ minus 5 ∷ []))
    ∷ row (by_steps (read (peaking "integer x, a(3)" "do i = 1, 3" ("x = max(x, a(i))" ∷ []))) (minus 9 ∷ minus 7 ∷ minus 3 ∷ minus 5 ∷ []) (1 ∷ []))
    (ends (passes 3 1) (minus 3 ∷ minus 7 ∷ minus 3 ∷ minus 5 ∷ []))
    ∷ row (ran_on (peaking "integer x, a" "do i = 1, 1" ("x = max(x, a)" ∷ [])) (minus 9 ∷ minus 12 ∷ []) []) (ends (passes 1 1) (minus 9 ∷ minus 12 ∷ []))
    ∷ row (peaked "x = max(x, a)" (pos 100 ∷ pos 7 ∷ [])) (ends (passes 2 1) (pos 100 ∷ pos 7 ∷ []))
    ∷ row (peaked "x = max(x, -a)" (minus 9 ∷ pos 7 ∷ [])) (ends (passes 2 1) (minus 7 ∷ pos 7 ∷ []))
    -- the remainder of a product: brackets may hold any sign
    ∷ row (weighed "x = x * (a + b) * c" (four 2 1 2 5)) (ends (passes 2 1) (four 450 1 2 5))
    ∷ row (weighed "x = x * rdiv(a - b, c / c) * max(a, b + 1)" (four 2 5 3 1)) (ends (passes 2 1) (four 200 5 3 1))
    ∷ row (weighed "x = x * a / b" (four 4 3 2 0)) (ends (reruns 2 1) (four 9 3 2 0))
    ∷ row (weighed "x = x * a + b" (four 4 3 2 0)) (ends (reruns 2 1) (four 44 3 2 0))
    ∷ row (weighed "x = a * x" (four 4 3 0 0)) (ends (reruns 2 1) (four 36 3 0 0))
    ∷ row (weighed "x = (x) * a" (four 4 3 0 0)) (ends (reruns 2 1) (four 36 3 0 0))
    ∷ row (weighed "x = -x * a" (four 4 3 0 0)) (ends (reruns 2 1) (four 36 3 0 0))
    ∷ row (checked (weighing "integer x" "do i = 1, 2" ("x = x * -1" ∷ []))) (checks (refuse 2 4))
    -- what is no maximum update
    ∷ row (peaked "x = max(a, x)" (pos 4 ∷ pos 9 ∷ [])) (ends (reruns 2 1) (pos 9 ∷ pos 9 ∷ []))
    ∷ row (peaked "x = max((x), a)" (pos 4 ∷ pos 9 ∷ [])) (ends (reruns 2 1) (pos 9 ∷ pos 9 ∷ []))
    ∷ row (peaked "x = max(x, a) + 0" (pos 4 ∷ pos 9 ∷ [])) (ends (reruns 2 1) (pos 9 ∷ pos 9 ∷ []))
    ∷ row (peaked "x = (max(x, a))" (pos 4 ∷ pos 9 ∷ [])) (ends (reruns 2 1) (pos 9 ∷ pos 9 ∷ []))
    -- each name has the update of its own clause only
    ∷ row (weighed "x = x + a" (four 4 3 0 0)) (ends (reruns 2 1) (four 10 3 0 0))
    ∷ row (weighed "x = max(x, a)" (four 4 3 0 0)) (ends (reruns 2 1) (four 4 3 0 0))
    ∷ row (peaked "x = x - a" (pos 4 ∷ pos 9 ∷ [])) (ends (reruns 2 1) (minus 14 ∷ pos 9 ∷ []))
    ∷ row (peaked "x = x * a" (pos 4 ∷ pos 9 ∷ [])) (ends (reruns 2 1) (pos 324 ∷ pos 9 ∷ []))
    ∷ row (net "do i = 1, 2" ("s = s * 2" ∷ []) (pos 5)) (ends (reruns 2 1) (pos 20 ∷ []))
    ∷ row (net "do i = 1, 2" ("s = max(s, 9)" ∷ []) (pos 5)) (ends (reruns 2 1) (pos 9 ∷ []))
    -- an update beside an ordinary access; its mark
    ∷ row (ran_on (weighing "integer x, t" "do i = 1, 1" ("x = x * 2" ∷ "t = x" ∷ [])) (pos 5 ∷ pos 0 ∷ []) []) (ends (reruns 2 2) (pos 10 ∷ pos 10 ∷ []))
    ∷ row (looked_on (weighing "integer x" "do i = 1, 5" ("x = x * i" ∷ [])) (pos 3 ∷ []) (0 ∷ [])) (views (3 ∷ 8 ∷ []))
    -- the subscript comes first, and x itself is not read; the arguments of max from the left
    ∷ row (ran_on (dealing "integer a(2)" "num_threads(2) reduction(max:a)" "do i = 1, 1" ("a(9) = max(a(9), 1/0)" ∷ [])) (pos 0 ∷ pos 0 ∷ []) [])
    (ends (faults 9 4 (pos 1)) (pos 0 ∷ pos 0 ∷ []))
    ∷ row (compared "x = max(a(9), 1/0)") (ends (faults 9 4 (pos 1)) (pos 0 ∷ pos 0 ∷ pos 0 ∷ []))
    ∷ row (compared "x = max(1/0, a(9))") (ends (faults 10 4 (pos 1)) (pos 0 ∷ pos 0 ∷ pos 0 ∷ []))
    ∷ row (compared "x = 3 * max(2, 5) + max(-4, -1)") (ends (passes 1 1) (pos 14 ∷ pos 0 ∷ pos 0 ∷ []))
    -- max has two arguments, and its bracket counts
    ∷ row (checked (larger_of "x = max(1)")) (checks (refuse 2 4))
    ∷ row (checked (larger_of "x = max(1, 2, 3)")) (checks (refuse 2 4))
    ∷ row (checked (larger_of "x = max 1, 2")) (checks (refuse 2 4))
    ∷ row (checked (larger_of "x = max(2, (((((((1))))))))")) (checks (sizes 3 2))
    ∷ row (checked (larger_of "x = max(2, ((((((((1)))))))))")) (checks (refuse 4 4))
    ∷ row (checked (peaking "integer x, a" "do i = 1, 1" ("x = max(x, ((((((((1)))))))))" ∷ []))) (checks (refuse 4 4))
    -- the clauses: in any case, in one directive; a name in two or twice in one, another operator; `max` is no name
    ∷ row (checked (read_first "REDUCTION ( Max : z ) num_threads(2) reduction(*:y)")) (checks (sizes 2 2))
    ∷ row (checked (read_first "num_threads(2) reduction(*:z) reduction(max:z)")) (checks (refuse 3 2))
    ∷ row (checked (read_first "num_threads(2) reduction(max:z) reduction(max:z)")) (checks (refuse 3 2))
    ∷ row (checked (read_first "num_threads(2) reduction(*:z, z)")) (checks (refuse 3 2))
    ∷ row (checked (read_first "num_threads(2) reduction(*:z) lastprivate(z)")) (checks (refuse 3 2))
    ∷ row (checked (read_first "num_threads(2) reduction(-:z)")) (checks (refuse 2 2))
    ∷ row (checked (read_first "num_threads(2) reduction(min:z)")) (checks (refuse 2 2))
    ∷ row (checked (read_first "num_threads(2) reduction(max:max)")) (checks (refuse 2 2))
    ∷ row (checked (dealing "integer max" "num_threads(2)" "do i = 1, 2" [])) (checks (refuse 2 1))
    ∷ row (checked (dealing "integer x" "num_threads(2)" "do max = 1, 2" [])) (checks (refuse 2 3))
    ∷ row (checked (larger_of "max = 1")) (checks (refuse 2 4))
    ∷ row (checked (larger_of "x = max")) (checks (refuse 2 4))
    ∷ row (checked []) (checks (refuse 2 1))
    ∷ row (checked (up_to 2048 rising)) (checks (sizes 3 2))
    ∷ row (checked (up_to 2049 rising)) (checks (refuse 1 0))
    ∷ []

-- every row gives what the documents say
pub examples : map (λ (r : Row). r.got) rows ≡ map (λ (r : Row). r.want) rows
unfolding rows rising writing writing_last adding idle reading aiming scattering
    word value wrap sum difference negation product greater larger quotient rdiv by_signs even_of nearer nearest integers.same related
    block_start singles blocks tested owner cell_of listed pick below put only written
    change either? both? not? find? kind? has? exposed? ordinary? over one? two? mark1? mark2? mark4? weight marks clash? stale? late? mixed? obstacle_at? obstructed?
    go_on step steps through through_all run_out run_on trial is_fault? stopped? faulty? along from serial finished? highest updated add total join_all
    block gathered merged touches count merge.sum pairs written_cells
    viewed look trial_passes? serial_passes? again run_by run settled_by settled ℕ_discrete dec_lt
    lines bytes'.run token_size tokens_after trimmed number_from show show_terms show_term show_factors show_factor show_ref
    find then_do values class_in after mentions in_terms in_term in_factors in_factor in_ref in_line names limits stands
    read_expr read_terms read_term read_factors read_factor read_ref read_more read_declare read_give read_clauses read_directive read_loop read_assign read_when
    read_end read_start read_line parse
    judged judge_line judge read loaded no_zeros alike summand multiplicand alone rival is_update remainder located divides called eval eval_terms eval_term eval_factors eval_factor
    place assigned exec class_of loop_of partition_of
    check_of cells_loaded view_shown run_of cells_run
examples = refl
