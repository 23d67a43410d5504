use Rattle.std.proofs.Common.{◌≡◌, length}
use Rattle.window_core.specs.PartnerSearch.{IsPartnerSearch}
use Rattle.window_core.proofs.partner_list.partners_by.Given as goal

abbrev pub invariant-loop-found : goal.invariant-loop-found
invariant-loop-found l = record {
  walk : IsPartnerSearch l.net l.root l.a l.b l.partners.items;
  count : length l.partners.items ≡ l._found;
}
