mod UnderLemmas
