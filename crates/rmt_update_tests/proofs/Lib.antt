mod PlanReady
