-- What is drawn from named locators, each with its status, where no list of them is kept.
use Rattle.std.specs.Prelude.{◌≡◌, List}
use Rattle.scrub_disk.specs.Image.{Image}
use Rattle.scrub_super.specs.Plan.{PlanValue}
use Rattle.scrub_check.specs.declared.named.Named.{Named}
use Rattle.scrub_check.specs.declared.statuses.checked.Checked.{Checked}
use Rattle.scrub_check.specs.declared.lists.drawn.FromLocators.{FromLocators}
use Rattle.scrub_check.specs.Checked.{AreBrokenShards, AreChecked, dangling, hidden}
use Rattle.scrub_check.specs.steps.LocatorIndex.{IsLocatorIndex}

-- what these checked locators say of places and extents, those of them that dangle or are hidden, and the broken shards
pub record AreDrawnFrom (checked : List Checked) (d : FromLocators) : Type 0 where
  pub locators_are : IsLocatorIndex checked d.locators
  pub dangling_are : d.dangling.items ≡ dangling checked
  pub hidden_are : d.hidden.items ≡ hidden checked
  pub broken_are : AreBrokenShards checked d.broken.items

-- the lists are those of these named locators, in their order, each with its status
pub record AreDrawnFromNamed (image : Image) (plan : PlanValue) (names : List Named) (d : FromLocators) : Type 0 where
  pub checked : List Checked
  pub are : AreChecked image plan names checked
  pub lists : AreDrawnFrom checked d
