use Rattle.std.proofs.Common.{rules, ◌≡◌, get_or, ap, ◌∙◌}
use Rattle.net.specs.Sheets.{number, row_at}
use Rattle.net.specs.States.{view}
use Rattle.theory.specs.Rewrites.{post_row, pre_row}
use Rattle.products.specs.Products.{numbers, post_number, pre_number}
use Rattle.products.proofs.Appending.{all_numbers}
use Rattle.products.proofs.Numbers.{post_at, pre_at}
use Rattle.products.proofs.pairs.Pair.wide_row.Goals as goal

pub returns-in-Post : goal.returns-in-Post
returns-in-Post c =
    let s = view c.args.net.now in
    let x = c.args.self in
    let e : c.post_row.result ≡ numbers (post_row s x.p x.h x.f) =
    all_numbers (post_row s x.p x.h x.f) c.post_row.result (search rules)
    (λ j l. c.post_row.ensures j l
    ∙ ap (λ a. post_number a (get_or c.row_of-consumer.result.now j 0) c.from-p.result c.factor.result j) (c.row_of-feeder.ensures.numbers j l)
    ∙ ap (λ b. post_number (number (row_at s.sheet x.h) j) b c.from-p.result c.factor.result j) (c.row_of-consumer.ensures.numbers j l)
    ∙ post_at s x.p x.h x.f j l c.from-p.result c.factor.result c.from-p.ensures c.factor.ensures.value) in
    rw c.in-Post.is e

pub returns-in-Pre : goal.returns-in-Pre
returns-in-Pre c =
    let s = view c.args.net.now in
    let x = c.args.self in
    let e : c.pre_row.result ≡ numbers (pre_row s x.p x.h x.f) =
    all_numbers (pre_row s x.p x.h x.f) c.pre_row.result (search rules)
    (λ j l. c.pre_row.ensures j l
    ∙ ap (λ a. pre_number a (get_or c.row_of-consumer.result.now j 0) c.from-p.result j) (c.row_of-feeder.ensures.numbers j l)
    ∙ ap (λ b. pre_number (number (row_at s.sheet x.h) j) b c.from-p.result j) (c.row_of-consumer.ensures.numbers j l)
    ∙ pre_at s x.p x.h x.f j l c.from-p.result c.from-p.ensures) in
    rw c.in-Pre.is e
