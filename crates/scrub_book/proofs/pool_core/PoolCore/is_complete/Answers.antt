use Rattle.std.proofs.Common.{◌≡◌, ◌==◌, ◌&&◌, ◌∙◌, Bool, List, true, arith, ap, sym, length, map, is_none}
use Rattle.std.specs.List.{list_all}
use Rattle.std.proofs.lemmas.Bool.Decides.{nat_tests}
use Rattle.std.proofs.lemmas.List.Folds.{list_all-map}
use Rattle.scrub_book.specs.declared.member.Member.{Member}
use Rattle.scrub_book.specs.steps.Member.{member_value}
use Rattle.scrub_book.specs.Pool.{MemberValue}
use Rattle.scrub_book.proofs.pool_core.PoolCore.is_complete.Goals as goal

pub returns-then-is_empty : goal.returns-then-is_empty
returns-then-is_empty g c =
    let f = c.self.inside in
    let through : MemberValue → Bool = λ m. is_none m.held && m.has_retired in
    let value : Member g.row.D.Denot g.D.PageSource → MemberValue = λ m. member_value m in
    let members : c.are_through.result ≡ list_all through (map value f.members.items) =
    c.are_through.ensures
    ∙ ap (λ (ms : List (Member g.row.D.Denot g.D.PageSource)). list_all (λ m. through (value m)) ms) c.deref.ensures.value
    ∙ sym (list_all-map through value f.members.items) in
    let empty : (length f.queue.items == 0) ≡ true = grind (arith, nat_tests, c.is_empty.ensures, c.if-is_empty.true) in
    rw (← c.self.view_is) (members ∙ sym (ap (λ (b : Bool). b && list_all through (map value f.members.items)) empty))
