use Rattle.fp_prices.proofs.classes.class_rules.class_pricing.Goals as goal

pub returns-clause-pricing : goal.returns-clause-pricing
returns-clause-pricing c = λ allowed chains are tells. record {
  valid = c.requires.valid;
  whole = c.requires.whole;
  keep = c.requires.tables.rule;
  rates = c.requires.rates;
  rule = c.in_ok-rule_of.ensures allowed are;
  forced = tells;
}
