-- The model of a pass: what it knows, the value that contracts see, and what each pass keeps.
use Rattle.std.specs.Prelude.{◌≡◌, ◌+◌, ◌==◌, ℕ, [], All}
use Rattle.std.specs.List.Sorted.{IsStrictlyIncreasing}
use Rattle.crossbeam_queue.specs.Passes.{Pass}
use Rattle.crossbeam_queue.specs.Passes as passes
use Rattle.scrub_pool.specs.declared.rule.View.{View}
use Rattle.scrub_pool.specs.Passes.{PassValue}

-- what a pass knows: the same as `view` of `crossbeam_queue`, under a name that the model of a pass may use
abbrev pub known : Pass ℕ View → View
known p = passes.view p

-- the value that contracts see of a pass
abbrev pub pass_value : Pass ℕ View → PassValue
pass_value p = let v = known p in record { queue = p.table_id; planned = v.pushed; first = v.firsts == 1; own = v.own; joined = v.joined; out = v.out }

-- what each pass keeps: it has no slot of the queue; it is the first, or was split from it and is not joined back;
-- nothing was joined into a split one; its lists ascend
pub record IsPass (p : Pass ℕ View) : Type 0 where
  pub free : p.me.1 ≡ []
  pub one : (known p).firsts + (known p).lives ≡ 1
  pub split : (known p).firsts ≡ 0 → (known p).joined ≡ []
  pub own_rises : IsStrictlyIncreasing (known p).own
  pub joined_rise : All IsStrictlyIncreasing (known p).joined
