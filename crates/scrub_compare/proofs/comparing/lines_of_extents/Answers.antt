-- The lines of extent 0, those of the others, and those of named locators.
use Rattle.std.proofs.Common.{◌≡◌, ◌++◌, [], rules, List, ℕ, ap, ◌∙◌}
use Rattle.std.specs.Prelude.{string_bytes}
use Rattle.scrub_found.specs.Judged.{found_in}
use Rattle.scrub_compare.specs.Compare.{extent_lines, named_lines, written_line}
use Rattle.scrub_compare.proofs.comparing.lines_of_extents.Goals as goal

pub returns : goal.returns
returns g c b d =
    let empty : string_bytes c.new-text.result ≡ [] = search rules in
    let e = c.in_ok-append_extents.ensures b d in
    let lines = extent_lines c.args.resets.now (found_in c.args.found_before.now b) (found_in c.args.found_after.now d) e.0 in
    let named = named_lines c.args.resets.now c.args.found_after.now.checked.items in (
      c.in_ok-first.first,
      c.in_ok-first.ensures,
      e.0,
      e.1,
      (rw c.deref.ensures.value at c.in_ok-append_named.ensures)
          ∙ ap (λ (u : List ℕ). u ++ named)
          (e.2 ∙ ap (λ (u : List ℕ). u ++ lines) (c.in_ok-append_written.ensures ∙ ap (λ (u : List ℕ). u ++ written_line 0 c.in_ok-first.first) empty)),
    )
