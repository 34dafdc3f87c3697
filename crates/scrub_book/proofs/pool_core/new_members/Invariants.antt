use Rattle.std.proofs.Common.{◌≡◌, map, replicate, All}
use Rattle.scrub_disk.specs.Image.{Image}
use Rattle.scrub_book.specs.declared.member.Member.{Member}
use Rattle.scrub_book.specs.steps.Member.{member_value, IsReady}
use Rattle.scrub_book.specs.Pool.{idle}
use Rattle.scrub_book.proofs.pool_core.new_members.Given as goal

-- this many members so far, none of which did anything
abbrev pub invariant-loop : goal.invariant-loop
invariant-loop g l = record {
  values : map (λ (m : Member g.row.D.Denot g.D.PageSource). member_value m) l.members.items ≡ replicate l.counter idle;
  ready : (image : Image) → All (IsReady image) l.members.items;
}
