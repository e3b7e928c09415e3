mod BeginLemmas
mod ObjectLemmas
mod WorldLemmas
mod FreshLemmas
mod Examples
