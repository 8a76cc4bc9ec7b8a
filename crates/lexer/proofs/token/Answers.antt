-- `lexer::token` meets its contract: blanks are passed over, and the first byte tells which run or sign begins there.
use Prim.Native.Nat.{ℕ, suc, ◌+◌, ◌-◌, ◌<◌}
use mathlib.Core.Path.{◌≡◌, sym, ◌∙◌, ap}
use mathlib.Core.List.{List}
use native.Mathlib.Numerals.{add-one}
use native.Mathlib.Omega.{arith}
use lib.ListN.{length, drop, get_or, length-drop}
use lib.Seq.{drop-cons, take_all}
use Rattle.std.proofs.Common.{rules}
use Rattle.syntax.specs.Bytes.{run, in_word, digit, sign_size}
use Rattle.lexer.specs.declared.Kind.TheVariants.{Digits, Sign}
use Rattle.lexer.specs.Lex.{blank, part, kind_number}
use Rattle.lexer.proofs.Tokens.{lexed_end, lexed_some, size_word, size_digits, size_sign, kind_word, kind_digits, kind_sign}
use Rattle.lexer.proofs.Signs.{sign_within, sign_some}
use Rattle.lexer.proofs.token.Goals as goal

pub returns-then-start-s : goal.returns-then-start-s
returns-then-start-s c =
    lexed_end c.args.s.now c.args.at c.run_end-start.result
    (c.run_end-start.ensures.value blank (λ b r l e. search rules)) (omega arith) c.run_end-start.ensures.bounds.1

pub returns-then-is_ascii_lowercase : goal.returns-then-is_ascii_lowercase
returns-then-is_ascii_lowercase c =
    let s = c.args.s.now in
    let a = c.run_end-start.result in
    let h : a < length s = omega arith in
    let l = sym c.is_ascii_lowercase.ensures.value ∙ c.if-is_ascii_lowercase.true in
    lexed_some s c.args.at a (c.run_end-start.ensures.value blank (λ b r l e. search rules)) h c.run_end-stop.result c.word_kind-kind.result
    (c.run_end-stop.ensures.value in_word (λ b r l e. e) ∙ ap (λ (n : ℕ). n + run in_word (drop n s)) (add-one a)
    ∙ omega (arith, size_word (get_or s a 0) (drop (suc a) s) l))
    (omega (arith, c.run_end-stop.ensures.bounds.0))
    c.run_end-stop.ensures.bounds.1
    (kind_word (get_or s a 0) (part s a c.run_end-stop.result) (kind_number c.word_kind-kind.result) l c.word_kind-kind.ensures)

pub returns-then-is_ascii_digit : goal.returns-then-is_ascii_digit
returns-then-is_ascii_digit c =
    let s = c.args.s.now in
    let a = c.run_end-start.result in
    let h : a < length s = omega arith in
    let l = sym c.is_ascii_lowercase.ensures.value ∙ c.if-is_ascii_lowercase.false in
    let d = sym c.is_ascii_digit.ensures.value ∙ c.if-is_ascii_digit.true in
    let stop = c.run_end-stop-then-is_ascii_digit in
    lexed_some s c.args.at a (c.run_end-start.ensures.value blank (λ b r l e. search rules)) h stop.result Digits
    (stop.ensures.value digit (λ b r l e. search rules) ∙ ap (λ (n : ℕ). n + run digit (drop n s)) (add-one a)
    ∙ omega (arith, size_digits (get_or s a 0) (drop (suc a) s) l d))
    (omega (arith, stop.ensures.bounds.0))
    stop.ensures.bounds.1
    (kind_digits (get_or s a 0) (part s a stop.result) l d)

-- what the sign's length is told of, the rest of the line
rest : (s : List ℕ) (a n : ℕ) → n ≡ sign_size (part s a (length s)) → n ≡ sign_size (drop a s)
rest s a n e = e ∙ ap sign_size (take_all (length s - a) (drop a s) (omega (arith, length-drop a s)))

pub overflow_add-result : goal.overflow_add-result
overflow_add-result c =
    let s = c.args.s.now in
    let a = c.run_end-start.result in
    omega (arith, rest s a c.sign_length.result c.sign_length.ensures, sign_within (drop a s) (omega (arith, length-drop a s)), length-drop a s)

pub returns : goal.returns
returns c =
    let s = c.args.s.now in
    let a = c.run_end-start.result in
    let h : a < length s = omega arith in
    let l = sym c.is_ascii_lowercase.ensures.value ∙ c.if-is_ascii_lowercase.false in
    let d = sym c.is_ascii_digit.ensures.value ∙ c.if-is_ascii_digit.false in
    let n = rest s a c.sign_length.result c.sign_length.ensures in
    lexed_some s c.args.at a (c.run_end-start.ensures.value blank (λ b r l e. search rules)) h (a + c.sign_length.result) Sign
    (ap (λ (m : ℕ). a + m) (n ∙ ap sign_size (drop-cons s a 0 h) ∙ sym (size_sign (get_or s a 0) (drop (suc a) s) l d)))
    (omega (arith, sign_some (drop a s)))
    (omega (arith, sign_within (drop a s) (omega (arith, length-drop a s)), length-drop a s))
    (kind_sign (get_or s a 0) (part s a (a + c.sign_length.result)) l d)
