-- The last range was taken off; it is put back in front of the page, or joined with it.
use Rattle.std.proofs.Common.{◌≡◌, ◌++◌, ◌∷◌, [], List, sym, ap, ◌∙◌, rules}
use Rattle.scrub_reclaim.specs.declared.page_ranges.PageRange.{PageRange}
use Rattle.scrub_reclaim.proofs.PageRanges.{alone, joined_alone, joined_neighbour, up_to_page}
use Rattle.scrub_reclaim.proofs.page_ranges.join_page.Goals as goal

pub returns-then-is_next : goal.returns-then-is_next
returns-then-is_next c =
    let old = c.args.ranges.now.items in
    let rest = c.pop.new.self.items in
    let r = c.in-Some.before in
    let split : old ≡ rest ++ r ∷ [] = c.in-Some.ensures.items in
    let pushed : c.push-then-is_next.new.self.items ≡ rest ++ up_to_page r c.args.page ∷ [] = search rules in
    pushed ∙ joined_neighbour old rest r c.args.page split (sym c.is_next.ensures ∙ c.if-is_next.true)

pub returns : goal.returns
returns c =
    let old = c.args.ranges.now.items in
    let rest = c.pop.new.self.items in
    let r = c.in-Some.before in
    let split : old ≡ rest ++ r ∷ [] = c.in-Some.ensures.items in
    let back : c.push-2.new.self.items ≡ rest ++ r ∷ [] = search rules in
    let pushed : c.push-3.new.self.items ≡ c.push-2.new.self.items ++ alone c.args.page ∷ [] = search rules in
    pushed ∙ ap (λ (rs : List PageRange). rs ++ alone c.args.page ∷ []) back ∙ joined_alone old rest r c.args.page split (sym c.is_next.ensures ∙ c.if-is_next.false)
