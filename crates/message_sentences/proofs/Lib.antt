mod FormLemmas
mod RuleLemmas
mod ToldLemmas
