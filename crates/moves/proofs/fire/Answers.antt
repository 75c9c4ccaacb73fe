use Rattle.std.proofs.Common.{◌≡◌, true, false, sym, ◌∙◌, rules, arith}
use Rattle.net.specs.States.{view}
use Rattle.theory.specs.Rewrites.{firing_ahead}
use Rattle.theory.specs.Steps.{in_limits?}
use Rattle.theory.specs.Tests.{ahead?, suffices?}
use Rattle.moves.proofs.Firings.{ahead_limits, fired}
use Rattle.moves.proofs.Sources.{ahead_at, suffices_at}
use Rattle.moves.proofs.fire.Goals as goal

pub returns-then-not-is_only-clause-answer : goal.returns-then-not-is_only-clause-answer
returns-then-not-is_only-clause-answer c =
    let s = view c.args.net.now in
    let x = c.args.ahead in
    let a : ahead? s x.t ≡ false = ahead_at s x.t c.in-Some.p (sym c.in-Some.is ∙ c.source.ensures) _ c.is_only.ensures ∙ c.if-not-is_only.true in
    search (rules, a)

pub returns-then-not-suffices_at-clause-answer : goal.returns-then-not-suffices_at-clause-answer
returns-then-not-suffices_at-clause-answer c =
    let s = view c.args.net.now in
    let x = c.args.ahead in
    let e = sym c.in-Some.is ∙ c.source.ensures in
    let a : ahead? s x.t ≡ true = ahead_at s x.t c.in-Some.p e _ c.is_only.ensures ∙ c.if-not-is_only.false in
    let m : suffices? s x.t x.k ≡ false = suffices_at s x.t c.in-Some.p e x.k _ c.suffices_at.ensures ∙ c.if-not-suffices_at.true in
    search (rules, a, m)

pub returns-in_default-marks-clause-answer : goal.returns-in_default-marks-clause-answer
returns-in_default-marks-clause-answer c =
    let s = view c.args.net.now in
    let x = c.args.ahead in
    let e = sym c.in-Some.is ∙ c.source.ensures in
    let a : ahead? s x.t ≡ true = ahead_at s x.t c.in-Some.p e _ c.is_only.ensures ∙ c.if-not-is_only.false in
    let m : suffices? s x.t x.k ≡ true = suffices_at s x.t c.in-Some.p e x.k _ c.suffices_at.ensures ∙ c.if-not-suffices_at.false in
    let b : in_limits? (firing_ahead x.t x.k s) ≡ false = ahead_limits c.args.net.now x.t x.k c.requires (sym c.is_there.ensures ∙ c.if-not-is_there.false) _ c.in_default-marks.ensures.fit in
    search (rules, a, m, b)

pub returns-clause-answer : goal.returns-clause-answer
returns-clause-answer c =
    let s = view c.args.net.now in
    let x = c.args.ahead in
    let e = sym c.in-Some.is ∙ c.source.ensures in
    let a : ahead? s x.t ≡ true = ahead_at s x.t c.in-Some.p e _ c.is_only.ensures ∙ c.if-not-is_only.false in
    let m : suffices? s x.t x.k ≡ true = suffices_at s x.t c.in-Some.p e x.k _ c.suffices_at.ensures ∙ c.if-not-suffices_at.false in
    let b : in_limits? (firing_ahead x.t x.k s) ≡ true = ahead_limits c.args.net.now x.t x.k c.requires (sym c.is_there.ensures ∙ c.if-not-is_there.false) _ c.in-Some-marks.ensures.fit in
    search (rules, a, m, b)

pub returns-clause-taken : goal.returns-clause-taken
returns-clause-taken c =
    let s = view c.args.net.now in
    let x = c.args.ahead in
    fired s x.t x.k c.in-Some-marks.marks c.write_marks.result (view c.write_marks.new.net) c.requires (omega arith) c.in-Some-marks.ensures.marks
    c.write_marks.ensures.exact
