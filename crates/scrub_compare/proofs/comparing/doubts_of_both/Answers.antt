-- The lines of the one image, and then those of the other.
use Rattle.std.proofs.Common.{◌≡◌, ◌++◌, [], List, ℕ, codes, ap, rules, ◌∙◌}
use Rattle.std.specs.Prelude.{string_bytes}
use Rattle.scrub_found.specs.Judged.{found_in}
use Rattle.scrub_compare.specs.Compare.{firm_lines}
use Rattle.scrub_compare.proofs.comparing.doubts_of_both.Goals as goal

pub returns : goal.returns
returns g c image other b d p q =
    let first = firm_lines (codes "before") c.args.pages.now (found_in c.args.found_before.now b) in
    let second = firm_lines (codes "after") c.args.pages_now.now (found_in c.args.found_after.now d) in
    let empty : string_bytes c.new-text.result ≡ [] = search rules in
    c.in_ok-append_firm-2.ensures other d q
    ∙ ap (λ (u : List ℕ). u ++ second) (c.in_ok-append_firm.ensures image b p ∙ ap (λ (u : List ℕ). u ++ first) empty)
