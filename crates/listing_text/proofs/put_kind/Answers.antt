-- `listing_text::put_kind` meets its contract: each kind has its word.
use native.Mathlib.Omega.{arith}
use mathlib.Core.Path.{sym}
use borrow.Author.Tests.{ne_eqb}
use Rattle.lines.proofs.Laws.{overlay-nil}
use Rattle.listing_text.specs.Listing.{kind_name}
use Rattle.listing_text.proofs.put_kind.Goals as goal

pub returns-in-1 : goal.returns-in-1
unfolding kind_name
returns-in-1 c = rw c.in-1.is c.put_text.ensures

pub returns-in-2 : goal.returns-in-2
unfolding kind_name
returns-in-2 c = rw c.in-2.is c.put_text-in-2.ensures

pub returns-in-3 : goal.returns-in-3
unfolding kind_name
returns-in-3 c = rw c.in-3.is c.put_text-in-3.ensures

pub returns-in-4 : goal.returns-in-4
unfolding kind_name
returns-in-4 c = rw c.in-4.is c.put_text-in-4.ensures

pub returns-in-5 : goal.returns-in-5
unfolding kind_name
returns-in-5 c = rw c.in-5.is c.put_text-in-5.ensures

pub returns-in-6 : goal.returns-in-6
unfolding kind_name
returns-in-6 c = rw c.in-6.is c.put_text-in-6.ensures

pub returns-in-7 : goal.returns-in-7
unfolding kind_name
returns-in-7 c = rw c.in-7.is c.put_text-in-7.ensures

pub returns-in-8 : goal.returns-in-8
unfolding kind_name
returns-in-8 c = rw c.in-8.is c.put_text-in-8.ensures

pub returns-in_default : goal.returns-in_default
unfolding kind_name
returns-in_default c =
    rw (ne_eqb c.args.kind 1 (λ e. omega arith), ne_eqb c.args.kind 2 (λ e. omega arith), ne_eqb c.args.kind 3 (λ e. omega arith), ne_eqb c.args.kind 4 (λ e. omega arith), ne_eqb c.args.kind 5 (λ e. omega arith), ne_eqb c.args.kind 6 (λ e. omega arith), ne_eqb c.args.kind 7 (λ e. omega arith), ne_eqb c.args.kind 8 (λ e. omega arith)) (omega arith, sym (overlay-nil c.args.out.now c.args.used))
