-- `conditions::relation` meets its contract: the relations are tried in turn.
use mathlib.Core.Path.{refl}
use Rattle.syntax.specs.Bytes.{bytes}
use Rattle.conditions.proofs.Comparisons.{sign_is, passes_said, relation_is}
use Rattle.conditions.proofs.relation.Goals as goal

pub returns-then-reads : goal.returns-then-reads
returns-then-reads c =
    let l = c.token-t.ensures in
    let e1 = sign_is l (bytes "==") refl c.reads.ensures c.if-reads.true in
    record { relation = relation_is l e1 refl refl refl refl refl; passed = passes_said l (bytes "==") e1 }

pub returns-then-reads-2 : goal.returns-then-reads-2
returns-then-reads-2 c =
    let l = c.token-t.ensures in
    let e1 = sign_is l (bytes "==") refl c.reads.ensures c.if-reads.false in
    let e2 = sign_is l (bytes "/=") refl c.reads-2.ensures c.if-reads-2.true in
    record { relation = relation_is l e1 e2 refl refl refl refl; passed = passes_said l (bytes "/=") e2 }

pub returns-then-reads-3 : goal.returns-then-reads-3
returns-then-reads-3 c =
    let l = c.token-t.ensures in
    let e1 = sign_is l (bytes "==") refl c.reads.ensures c.if-reads.false in
    let e2 = sign_is l (bytes "/=") refl c.reads-2.ensures c.if-reads-2.false in
    let e3 = sign_is l (bytes "<") refl c.reads-3.ensures c.if-reads-3.true in
    record { relation = relation_is l e1 e2 e3 refl refl refl; passed = passes_said l (bytes "<") e3 }

pub returns-then-reads-4 : goal.returns-then-reads-4
returns-then-reads-4 c =
    let l = c.token-t.ensures in
    let e1 = sign_is l (bytes "==") refl c.reads.ensures c.if-reads.false in
    let e2 = sign_is l (bytes "/=") refl c.reads-2.ensures c.if-reads-2.false in
    let e3 = sign_is l (bytes "<") refl c.reads-3.ensures c.if-reads-3.false in
    let e4 = sign_is l (bytes "<=") refl c.reads-4.ensures c.if-reads-4.true in
    record { relation = relation_is l e1 e2 e3 e4 refl refl; passed = passes_said l (bytes "<=") e4 }

pub returns-then-reads-5 : goal.returns-then-reads-5
returns-then-reads-5 c =
    let l = c.token-t.ensures in
    let e1 = sign_is l (bytes "==") refl c.reads.ensures c.if-reads.false in
    let e2 = sign_is l (bytes "/=") refl c.reads-2.ensures c.if-reads-2.false in
    let e3 = sign_is l (bytes "<") refl c.reads-3.ensures c.if-reads-3.false in
    let e4 = sign_is l (bytes "<=") refl c.reads-4.ensures c.if-reads-4.false in
    let e5 = sign_is l (bytes ">") refl c.reads-5.ensures c.if-reads-5.true in
    record { relation = relation_is l e1 e2 e3 e4 e5 refl; passed = passes_said l (bytes ">") e5 }

pub returns-then-reads-6 : goal.returns-then-reads-6
returns-then-reads-6 c =
    let l = c.token-t.ensures in
    let e1 = sign_is l (bytes "==") refl c.reads.ensures c.if-reads.false in
    let e2 = sign_is l (bytes "/=") refl c.reads-2.ensures c.if-reads-2.false in
    let e3 = sign_is l (bytes "<") refl c.reads-3.ensures c.if-reads-3.false in
    let e4 = sign_is l (bytes "<=") refl c.reads-4.ensures c.if-reads-4.false in
    let e5 = sign_is l (bytes ">") refl c.reads-5.ensures c.if-reads-5.false in
    let e6 = sign_is l (bytes ">=") refl c.reads-6.ensures c.if-reads-6.true in
    record { relation = relation_is l e1 e2 e3 e4 e5 e6; passed = passes_said l (bytes ">=") e6 }

pub returns : goal.returns
returns c =
    let l = c.token-t.ensures in
    let e1 = sign_is l (bytes "==") refl c.reads.ensures c.if-reads.false in
    let e2 = sign_is l (bytes "/=") refl c.reads-2.ensures c.if-reads-2.false in
    let e3 = sign_is l (bytes "<") refl c.reads-3.ensures c.if-reads-3.false in
    let e4 = sign_is l (bytes "<=") refl c.reads-4.ensures c.if-reads-4.false in
    let e5 = sign_is l (bytes ">") refl c.reads-5.ensures c.if-reads-5.false in
    let e6 = sign_is l (bytes ">=") refl c.reads-6.ensures c.if-reads-6.false in
    relation_is l e1 e2 e3 e4 e5 e6
